-- A save, over plain values. Assumes nothing.
use Rattle.std.proofs.Common.{◌≡◌, ℕ, ◌+◌, ◌-◌, ◌<◌, ◌≤◌, Bool, true, List, [], length, Some, None, Ok, Option, Result, sym, refl, ap, ◌∙◌, subst, arith, rules}
use native.Mathlib.Decide.{ℕ_discrete}
use Rattle.chip.specs.Meaning.{Meaning}
use Rattle.ledger.specs.declared.ledger.Ledger.{Ledger}
use Rattle.ledger.specs.declared.refusal.Refusal.{Refusal}
use Rattle.ledger.specs.Books.{Books, answer, unless, asks_return, spent}
use Rattle.ledger.specs.Fair.{FairBooks}
use Rattle.ledger.specs.Of.{books_of}
use Rattle.ledger.specs.Settled.{Settled}
use Rattle.ledger.proofs.Facts.{fair_of}
use Rattle.ledger.proofs.Settles.{spent_settled}
use Rattle.ledger.proofs.Tokens.{tokens_spent}
use Rattle.history.specs.History.{History}
use Rattle.history.specs.Pages.{frees}
use Rattle.history.specs.Work.{Written}
use Rattle.history.proofs.Laws.{write_costs}
use Rattle.pages.specs.declared.tables.Tables.{Tables}
use Rattle.pages.specs.Search.{over}
use Rattle.pages.specs.Tied.{maps_of, page_in}
use Rattle.pages.specs.Write.{CanWrite, Wrote}
use Rattle.pages.specs.Recycle.{all_free}
use Rattle.store.specs.declared.open.Open.{Open}
use Rattle.store.specs.State.{Standing, standing, paid_for, SoundAt, OpenSound, Sound}
use Rattle.store.specs.Effects.{asks_page, asks_save, Saves}
use Rattle.store.proofs.Booking.{sound_open, opened_sound, from_open, open_sound}

-- ---- what the questions say

pub record Granted (is_open : Bool) (b : Books) (i n size : ℕ) : Type 0 where
  pub is : is_open ≡ true
  pub out : asks_return b i ≡ None
  pub known : n < b.frame.numbers
  pub fits : size ≤ b.frame.page_size

pub save_granted : (is_open : Bool) (b : Books) (i n size : ℕ) → asks_save is_open b i n size ≡ None → Granted is_open b i n size
save_granted is_open b i n size none = search rules

-- ---- the write is possible

pub can_store : (m : Meaning) (b : Books) (t : Tables) (i n size : ℕ) → FairBooks b → SoundAt m b t → asks_return b i ≡ None → n < b.frame.numbers → size ≤ b.frame.page_size
    → CanWrite m t None n size
can_store m b t i n size fair at out known fits =
    let one = tokens_spent b i fair out in
    record {
      tied = at.tied;
      known = omega (arith, at.numbers);
      fits = omega (arith, at.page_size);
      skips = tt;
      room = omega (arith, one, at.room, at.spare);
    }

-- ---- and leaves all sound

module _ (m m' : Meaning) (b : Books) (t t' : Tables) (i n tries : ℕ) (d : List ℕ) (at : SoundAt m b t) (out : asks_return b i ≡ None) (known : n < b.frame.numbers)
    (wrote : Wrote m t None n d tries m' t') where
  written : (h : History) → ((h' : History) × Written (over t.geometry.pages_per_block None) n d tries h (maps_of t) m.pages t.start h' (maps_of t') m'.pages t'.start)
  written = wrote.answers

  pub tried : 1 ≤ tries
  tried = let w = (written []).1 in omega (arith, w.made)

  same_length : length m'.pages ≡ length m.pages
  same_length = search rules

  fewer : all_free m' + tries ≡ all_free m
  fewer =
      let w = written [] in
      ap (λ x. frees (page_in m'.pages) 0 x + tries) same_length
      ∙ write_costs _ n d [] w.0 (maps_of t) (maps_of t') m.pages m'.pages t.start t'.start tries (length m.pages) w.1 refl

  labels_on : (l q : ℕ) → maps_of t' l ≡ Some q → l < b.frame.numbers
  labels_on l q named =
      let w = (written []).1 in
      elim (ℕ_discrete l n) [
        | yes same ↦ omega (arith, same, known)
        | no apart ↦ at.labels l q (sym (w.others l apart) ∙ named)
      ]

  pub still_sound : FairBooks (paid_for (tries - 1) b) → SoundAt m' (spent (paid_for (tries - 1) b) i) t'
  still_sound fair =
      let one = tokens_spent (paid_for (tries - 1) b) i fair out in
      let few = fewer in
      let some = tried in
      record {
        tied = wrote.tied;
        shape =
            record {
              blocks = wrote.sizes.blocks ∙ at.shape.blocks ∙ sym (ap (λ g. g.blocks) wrote.geometry);
              pages = wrote.sizes.per_block ∙ at.shape.pages ∙ sym (ap (λ g. g.pages_per_block) wrote.geometry);
            };
        blocks = at.blocks ∙ sym wrote.sizes.blocks;
        per_block = at.per_block ∙ sym wrote.sizes.per_block;
        page_size = at.page_size ∙ sym wrote.sizes.page_size;
        numbers = at.numbers;
        labels = labels_on;
        spare = omega (arith, wrote.failed, at.spare);
        room = omega (arith, one, few, at.room, wrote.failed, at.spare);
      }

module _ {C H : Type 0} {means : C → Meaning} (s t : Standing means H) (i n : ℕ) (d : List ℕ) where
  pub saves_on : asks_save s.is_open (books_of s.ledger) i n (length d) ≡ None → Sound s → (tries : ℕ) → (paying : Ledger) → (failed : ℕ) → failed ≡ tries - 1
      → (CanWrite s.chip s.tables None n (length d) → Wrote s.chip s.tables None n d tries t.chip t.tables)
      → t.chooser ≡ s.chooser → t.is_open ≡ s.is_open → books_of paying ≡ paid_for failed (books_of s.ledger)
      → books_of t.ledger ≡ unless (asks_return (books_of paying) i) (spent (books_of paying) i) (books_of paying)
      → Saves s i n d (Ok tries) t
  saves_on none sound tries paying failed is-failed writes chooser is_open paid-so made =
      let b = books_of s.ledger in
      let granted = save_granted s.is_open b i n (length d) none in
      let o = sound_open s granted.is sound in
      let wrote = writes (can_store s.chip b s.tables i n (length d) (fair_of s.ledger) o.at granted.out granted.known granted.fits) in
      let c = paid_for (tries - 1) b in
      let so : books_of paying ≡ c = paid-so ∙ ap (λ x. paid_for x b) is-failed in
      let fair : FairBooks c = subst FairBooks so (fair_of paying) in
      let books : books_of t.ledger ≡ spent c i =
      made ∙ ap (λ (x : Books). unless (asks_return x i) (spent x i) x) so ∙ ap (λ q. unless q (spent c i) c) granted.out in
      let after : Sound t =
      open_sound t (is_open ∙ granted.is)
      (record {
        at =
            subst (λ (x : Books). SoundAt t.chip x t.tables) (sym books)
            (still_sound s.chip t.chip b s.tables t.tables i n tries d o.at granted.out granted.known wrote fair);
        settled = subst Settled (sym books) (spent_settled c i fair.eight o.settled);
      }) in (
        none,
        λ h.
            let w = wrote.answers h in (
              w.0,
              record { chooser = chooser; is_open = is_open; books = books; failed = wrote.failed; sizes = wrote.sizes; wrote = w.1; sound = after },
            ),
      )

  -- the ways that are never taken
  pub never_stuck : asks_save s.is_open (books_of s.ledger) i n (length d) ≡ None → Sound s → (CanWrite s.chip s.tables None n (length d) → ⊥) → ⊥
  never_stuck none sound refused =
      let b = books_of s.ledger in
      let granted = save_granted s.is_open b i n (length d) none in
      let o = sound_open s granted.is sound in
      refused (can_store s.chip b s.tables i n (length d) (fair_of s.ledger) o.at granted.out granted.known granted.fits)

-- ---- refusals

module _ {C H : Type 0} {means : C → Meaning} (s : Standing means H) (i n : ℕ) (d : List ℕ) (is : s.is_open ≡ true) where
  -- nothing is refused
  pub asked_all : (x y : Unit {0}) → ◌≡◌ {A = Result (Unit {0}) Refusal} (Ok x) (answer (asks_return (books_of s.ledger) i) tt)
      → ◌≡◌ {A = Result (Unit {0}) Refusal} (Ok y) (answer (asks_page (books_of s.ledger) n (length d)) tt) → asks_save s.is_open (books_of s.ledger) i n (length d) ≡ None
  asked_all x y out told = search rules

-- a whole save of an open store: seat, number and length were found good
module _ {C H : Type 0} (means : C → Meaning) (k : C) (c : H) {was : Option Open} {o : Open} (is : was ≡ Some o) (sound : Sound (standing means k c was)) (i n : ℕ) (d : List ℕ) {x y : Unit {0}}
    (out : ◌≡◌ {A = Result (Unit {0}) Refusal} (Ok x) (answer (asks_return (books_of o.ledger) i) tt)) (fits : ◌≡◌ {A = Result (Unit {0}) Refusal} (Ok y) (answer (asks_page (books_of o.ledger) n (length d)) tt)) where
  none : asks_save true (books_of o.ledger) i n (length d) ≡ None
  none = asked_all (standing means k c (Some o)) i n d refl x y out fits

  module _ (k' : C) (u : Tables) where
    pub always_written : (CanWrite (means k) o.tables None n (length d) → ⊥) → ⊥
    always_written refused = never_stuck (standing means k c (Some o)) (standing means k c (Some o)) i n d none (opened_sound means k c is sound) refused

    module _ (tries : ℕ) (paying l : Ledger) (failed : ℕ) (less : failed ≡ tries - 1) (writes : CanWrite (means k) o.tables None n (length d) → Wrote (means k) o.tables None n d tries (means k') u)
        (paid : books_of paying ≡ paid_for failed (books_of o.ledger)) (made : books_of l ≡ unless (asks_return (books_of paying) i) (spent (books_of paying) i) (books_of paying)) where
      done : Saves (standing means k c (Some o)) i n d (Ok tries) (standing means k' c (Some (record { ledger = l; tables = u })))
      done = saves_on (standing means k c (Some o)) (standing means k' c (Some (record { ledger = l; tables = u }))) i n d none (opened_sound means k c is sound) tries paying failed less writes refl refl paid made

      pub saved : Saves (standing means k c was) i n d (Ok tries) (standing means k' c (Some (record { ledger = l; tables = u })))
      saved = from_open means k c is sound (λ z. Saves z i n d (Ok tries) (standing means k' c (Some (record { ledger = l; tables = u })))) done

      pub saved_sound : OpenSound (standing means k' c (Some (record { ledger = l; tables = u })))
      saved_sound = ((done).1 []).1.sound
