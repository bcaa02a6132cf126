-- What it says of the books that no question was answered "no". Assumes nothing.
use Rattle.std.proofs.Common.{rules, ◌≡◌, ℕ, ◌+◌, ◌<◌, ◌≤◌, Bool, true, false, ltb, Some, None, Option, refl}
use Rattle.plan.specs.declared.numbers.Plan.{Plan}
use Rattle.plan.specs.Plan.{planned}
use Rattle.std.proofs.lemmas.Bool.{and_parts, ltb-true}
use Rattle.ledger.specs.declared.refusal.Refusal.{Refusal}
use Rattle.ledger.specs.Seats.{is_empty, in_use}
use Rattle.ledger.specs.Books.{Books, seat_of, collector_share, ask, used_seat, rule_with, asks_admit}

-- a question that was not answered "no", and the questions after it
pub asked : (t : Bool) (e : Refusal) (rest : Option Refusal) → ask t e rest ≡ None → (t ≡ true) × (rest ≡ None)
asked true e rest none = (refl, none)
asked false e rest none = absurd (cc)

module _ (b : Books) (i : ℕ) where
  pub used_parts : used_seat b i ≡ true → (i < 8) × (in_use (seat_of b i) ≡ true)
  used_parts used = let p = and_parts (ltb i 8) (in_use (seat_of b i)) used in (ltb-true i 8 p.0, p.1)

  pub admit_granted :
      (p w : ℕ) → asks_admit b i p w ≡ None →
      (i < 8) × (is_empty (seat_of b i) ≡ true) × ((plan : Plan) × (planned b.frame.alpha p w ≡ Some plan) × (plan.writes + collector_share b.frame ≤ b.pool) × (rule_with b plan ≡ true))
  admit_granted p w none = search rules
