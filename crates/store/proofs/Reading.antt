-- A read, over plain values. Assumes nothing.
use Rattle.std.proofs.Common.{◌≡◌, ℕ, ◌<◌, Bool, true, cond, ltb, leb, List, length, Some, Ok, Err, Option, Result, sym, refl, ap, ◌∙◌, subst, arith, rules}
use Rattle.std.specs.Result.{is_err}
use Rattle.std.proofs.lemmas.List.{get_or_default}
use Rattle.std.proofs.lemmas.Bool.{cond-true, lt-ltb}
use Rattle.chip.specs.declared.words.Refusal.{Refusal as ChipRefusal}
use Rattle.chip.specs.declared.words.Refusal.TheVariants.{NotThere, TooLong}
use Rattle.chip.specs.Meaning.{free, spoiled, written, Meaning, page_at}
use Rattle.chip.specs.Calls.{fetched_page, fetched}
use Rattle.ledger.specs.declared.refusal.Refusal.TheVariants.{BufferTooShort}
use Rattle.ledger.specs.Books.{Books}
use Rattle.ledger.specs.Of.{books_of}
use Rattle.pages.specs.declared.tables.Tables.{Tables}
use Rattle.pages.specs.Tied.{maps_of, Tied}
use Rattle.store.specs.declared.open.Open.{Open}
use Rattle.store.specs.State.{Standing, standing, Sound}
use Rattle.store.specs.Effects.{stored_at, read_from, read_told, Same, Reads}
use Rattle.store.proofs.Booking.{sound_open, opened_sound}

-- what a call was refused with
pub error_of : {T E : Type 0} (r : Result T E) → is_err r ≡ true → (e : E) × (r ≡ Err e)
error_of (Ok x) so = absurd (cc)
error_of (Err e) so = (e, refl)

-- the page that the map names, and what a fetch from it tells
pub record ReadPage (m : Meaning) (q room : ℕ) (r : Result (ℕ × ℕ) ChipRefusal) : Type 0 where
  pub bytes : List ℕ
  pub label : ℕ
  pub is : page_at m q ≡ written label bytes
  pub told : r ≡ cond (leb (length bytes) room) (Ok (label, length bytes)) (Err TooLong)

pub read_page : (m : Meaning) (t : Tables) (n q room : ℕ) (r : Result (ℕ × ℕ) ChipRefusal) → Tied m.page_size m.pages t → maps_of t n ≡ Some q → r ≡ fetched m q room → ReadPage m q room r
read_page m t n q room r tied named told =
    let k = tied.labelled n q named in
    let is : page_at m q ≡ written n k.1.0 = get_or_default m.pages q spoiled free k.0 ∙ k.1.1 in
    record {
      bytes = k.1.0;
      label = n;
      is = is;
      told = told ∙ cond-true (ltb q (length m.pages)) (fetched_page (page_at m q) room) (Err NotThere) (lt-ltb q (length m.pages) k.0) ∙ ap (λ x. fetched_page x room) is;
    }

read_err : (m : Meaning) (q room : ℕ) (e : ChipRefusal) → ReadPage m q room (Err e) → Err BufferTooShort ≡ read_from (stored_at m (Some q)) room
read_err m q room f p = search rules

-- an open store in whose range the number lies answers by what is stored
in_range : (is_open : Bool) (b : Books) (n room : ℕ) (stored : Option (List ℕ)) → is_open ≡ true → n < b.frame.numbers → read_told is_open b n stored room ≡ read_from stored room
in_range is_open b n room stored is known = search rules

module _ {C H : Type 0} {means : C → Meaning} (s t : Standing means H) (n : ℕ) (before after : List ℕ) where
  -- a fetch from the page that the map names is refused only where the buffer is too short
  pub too_short : s.is_open ≡ true → Same s t → n < (books_of s.ledger).frame.numbers → (q : ℕ) → (n < 1920 → Some q ≡ maps_of s.tables n) → Sound s
      → (e : ChipRefusal) → Err e ≡ fetched s.chip q (length before) → after ≡ before → Reads s n before (Err BufferTooShort) t after
  too_short is same known q named sound e told stays =
      let m = s.chip in
      let o = (sound_open s is sound).at in
      let here : maps_of s.tables n ≡ Some q = sym (named (omega (arith, known, o.numbers))) in
      let page = read_page m s.tables n q (length before) (Err e) o.tied here told in (
        read_err m q (length before) e page
            ∙ sym (in_range s.is_open (books_of s.ledger) n (length before) (stored_at m (maps_of s.tables n)) is known ∙ ap (λ x. read_from (stored_at m x) (length before)) here),
        stays,
        same,
      )

-- the same of a store that has its parts
module _ {C H : Type 0} (means : C → Meaning) (k k' : C) (c : H) {was : Option Open} {o : Open} (is : was ≡ Some o) (sound : Sound (standing means k c was)) (n : ℕ) (before after : List ℕ) where
  pub short : means k' ≡ means k → n < o.ledger.frame.numbers → (q : ℕ) → (n < 1920 → Some q ≡ maps_of o.tables n)
      → (e : ChipRefusal) → Err e ≡ fetched (means k) q (length before) → after ≡ before → Reads (standing means k c was) n before (Err BufferTooShort) (standing means k' c was) after
  short same known q named e told stays =
      subst (λ (x : Option Open). Reads (standing means k c x) n before (Err BufferTooShort) (standing means k' c x) after) (sym is)
      (too_short (standing means k c (Some o)) (standing means k' c (Some o)) n before after refl (record { rest = record { chip = same; chooser = refl; is_open = refl; tables = refl }; ledger = refl })
      known q named (opened_sound means k c is sound) e told stays)
