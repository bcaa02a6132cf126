-- What each call keeps, from what it does. Assumes nothing.
use Rattle.std.proofs.lemmas.Grind.{common_steps}
use Rattle.std.proofs.Common.{◌≡◌, ℕ, ◌+◌, ◌<◌, ◌≤◌, Some, None, Ok, Err, Option, Result, sym, refl, subst, arith, MatchResult}
use Rattle.plan.specs.declared.numbers.Plan.{Plan}
use Rattle.plan.specs.Plan.{plan_of}
use Rattle.ledger.specs.declared.refusal.Refusal.{Refusal}
use Rattle.ledger.specs.Books.{Books, tokens, answer, unless, asks_notice, asks_take, asks_return, asks_admit, noticed, taken, returned, spent, admitted, ended}
use Rattle.ledger.specs.Fair.{FairBooks}
use Rattle.ledger.specs.Keeps.{Keeps, Spends}
use Rattle.ledger.specs.Settled.{Settled, SettledBut}
use Rattle.ledger.specs.Steps.{stepped, owes, made_one}
use Rattle.ledger.proofs.Admits.{planned_law, planned_sized}
use Rattle.ledger.proofs.Answered.{admit_granted}
use Rattle.ledger.proofs.Settles.{noticed_settled, taken_settled, returned_settled, spent_settled, admitted_settled, ended_settled, none_owed}
use Rattle.ledger.proofs.Tokens.{tokens_noticed, tokens_taken, tokens_returned, tokens_spent, tokens_admitted, tokens_entered, tokens_ran, tokens_ended}

pub stays : (b : Books) → Keeps b b
stays b = record { same_tokens = refl; settled = λ all. all }

-- by the question that failed, if one did
by_question : {b after : Books} (q : Option Refusal) {c : Books} → c ≡ unless q after b → (q ≡ None → Keeps b after) → Keeps b c
by_question {b} None is granted = subst (Keeps b) (sym is) (granted refl)
by_question {b} (Some e) is granted = subst (Keeps b) (sym is) (stays b)

module _ {b c : Books} (fair : FairBooks b) (i : ℕ) where
  pub notice_keeps : c ≡ unless (asks_notice b i) (noticed b i) b → Keeps b c
  notice_keeps is = grind (arith, common_steps, tokens_noticed b i, noticed_settled b i)

  pub take_keeps : c ≡ unless (asks_take b i) (taken b i) b → Keeps b c
  take_keeps is = grind (arith, common_steps, tokens_taken b i, taken_settled b i)

  pub return_keeps : c ≡ unless (asks_return b i) (returned b i) b → Keeps b c
  return_keeps is = grind (arith, common_steps, tokens_returned b i, returned_settled b i)

  pub admit_keeps : (p w : ℕ) → c ≡ unless (asks_admit b i p w) (admitted b i (plan_of b.frame.alpha p w)) b → Keeps b c
  admit_keeps p w is = by_question (asks_admit b i p w) is admitted_keeps
    where
      admitted_keeps : asks_admit b i p w ≡ None → Keeps b (admitted b i (plan_of b.frame.alpha p w))
      admitted_keeps none =
          let told = admit_granted b i p w none in
          let plan = told.2.0 in
          let planned-as = told.2.1 in
          let law = planned_law b.frame.alpha p w plan planned-as in
          let same = (planned_sized b.frame.alpha p w plan planned-as law).is in
          subst (λ (q : Plan). Keeps b (admitted b i q)) (sym same) (record {
            same_tokens = tokens_admitted b i fair told.0 told.1 plan told.2.2;
            settled = admitted_settled b i fair.eight plan law.lasts;
          })

  spend_by : (q : Option Refusal) → asks_return b i ≡ q → (r : Result (Unit {0}) Refusal) → r ≡ answer q tt → c ≡ unless q (spent b i) b → MatchResult r (λ _. Spends b c) (λ _. Keeps b c)
  spend_by None granted (Ok x) told is =
      subst (Spends b) (sym is) (record { one_less = tokens_spent b i fair granted; settled = spent_settled b i fair.eight })
  spend_by None granted (Err e) told is = absurd (cc)
  spend_by (Some e) granted (Ok x) told is = absurd (cc)
  spend_by (Some e) granted (Err d) told is = subst (Keeps b) (sym is) (stays b)

  pub spend_keeps : (r : Result (Unit {0}) Refusal) → r ≡ answer (asks_return b i) tt → c ≡ unless (asks_return b i) (spent b i) b → MatchResult r (λ _. Spends b c) (λ _. Keeps b c)
  spend_keeps r told is = spend_by (asks_return b i) refl r told is

-- ---- the parts of a tick

module _ {b c : Books} (fair : FairBooks b) (i : ℕ) where
  pub step_keeps : c ≡ stepped b i → tokens c ≡ tokens b
  step_keeps is = grind (arith, common_steps, tokens_entered b i)

  pub run_adds : c ≡ made_one b i → 0 < owes b i → tokens c ≡ tokens b + b.frame.alpha
  run_adds is some = grind (arith, common_steps, tokens_ran b i)

  pub end_keeps : c ≡ ended b i → owes b i ≡ 0 → tokens c ≤ tokens b
  end_keeps is none = grind (arith, common_steps, tokens_ended, none_owed)

  pub end_settles : c ≡ ended b i → i < 8 → owes b i ≡ 0 → SettledBut i b → Settled c
  end_settles is within none but = subst Settled (sym is) (ended_settled b i fair within but (none_owed b i fair none))
