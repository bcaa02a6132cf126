-- A call on the ledger alone leaves the store sound. Assumes nothing.
use Rattle.std.proofs.Common.{◌≡◌, ◌≤◌, true, Some, None, Option, Result, Err, refl, rules, subst, sym}
use Rattle.chip.specs.Meaning.{Meaning}
use Rattle.ledger.specs.declared.refusal.Refusal.{Refusal}
use Rattle.ledger.specs.declared.ledger.Ledger.{Ledger}
use Rattle.ledger.specs.Books.{Books, tokens, unless, answer}
use Rattle.ledger.specs.Keeps.{Keeps}
use Rattle.ledger.specs.Of.{books_of}
use Rattle.pages.specs.declared.tables.Tables.{Tables}
use Rattle.store.specs.declared.open.Open.{Open}
use Rattle.store.specs.State.{SoundAt, Parts, parts, Standing, standing, OpenSound, Sound}
use Rattle.store.specs.Effects.{Booked}
use Rattle.store.specs.Seen.{seen}

-- other books with the same frame, as much in the spare account and no more tokens
pub sound_at : {m n : Meaning} {b c : Books} {t u : Tables} → n ≡ m → u ≡ t → c.frame ≡ b.frame → c.spare ≡ b.spare → tokens c ≤ tokens b → SoundAt m b t → SoundAt n c u
sound_at {m} {n} {b} {c} {t} {u} chip tables frame spare fewer at = search rules

module _ {C H : Type 0} {means : C → Meaning} (s : Standing means H) where
  pub sound_open : s.is_open ≡ true → Sound s → OpenSound s
  sound_open is sound = search rules

  pub open_sound : s.is_open ≡ true → OpenSound s → Sound s
  open_sound is sound = search rules

-- what refuses a call with no answer refuses one with any
pub refusal_of : {X : Type 0} (q : Option Refusal) (e : Refusal) (x : X) → ◌≡◌ {A = Result (Unit {0}) Refusal} (Err e) (answer q tt) → ◌≡◌ {A = Result X Refusal} (Err e) (answer q x)
refusal_of None e x told = search rules
refusal_of (Some f) e x told = search rules

-- what is true of a store's parts is true of what its contracts see
pub of_parts : {C H : Type 0} (means : C → Meaning) {k : C} {c : H} {o : Option Open} {p : Parts C H} → parts k c o ≡ p → (P : Standing means H → Type 0) → P (standing means k c o) → P (seen means p)
of_parts means is P q = subst (λ (x : Parts _ _). P (seen means x)) is q

-- what a store that is open keeps, where a call on the ledger alone kept the ledger's promises
module _ {C H : Type 0} (means : C → Meaning) (k : C) (c : H) {was : Option Open} {o : Open} (is : was ≡ Some o) (sound : Sound (standing means k c was)) where
  pub opened_sound : OpenSound (standing means k c (Some o))
  opened_sound = search rules

  -- what is true of the open store is true of the store
  pub from_open : (P : Standing means H → Type 0) → P (standing means k c (Some o)) → P (standing means k c was)
  from_open P p = subst (λ (x : Option Open). P (standing means k c x)) (sym is) p

  -- and of what its contracts see
  pub from_parts : {p : Parts C H} → parts k c was ≡ p → (P : Standing means H → Type 0) → P (standing means k c (Some o)) → P (seen means p)
  from_parts seen_as P q = of_parts means seen_as P (from_open P q)

  pub ledger_sound : (l : Ledger) (q : Option Refusal) (after : Books) → books_of l ≡ unless q after (books_of o.ledger)
      → after.frame ≡ o.ledger.frame → after.spare ≡ o.ledger.spare → Keeps (books_of o.ledger) (books_of l) → OpenSound (standing means k c (Some (record { ledger = l; tables = o.tables })))
  ledger_sound l q after made frame spare keeps = search rules

  pub booked : (l : Ledger) (q : Option Refusal) (after : Books) → books_of l ≡ unless q after (books_of o.ledger)
      → after.frame ≡ o.ledger.frame → after.spare ≡ o.ledger.spare → Keeps (books_of o.ledger) (books_of l)
      → Booked (standing means k c (Some o)) q after (standing means k c (Some (record { ledger = l; tables = o.tables })))
  booked l q after made frame spare keeps =
      record { rest = record { chip = refl; chooser = refl; is_open = refl; tables = refl }; books = made; sound = λ _. ledger_sound l q after made frame spare keeps }
