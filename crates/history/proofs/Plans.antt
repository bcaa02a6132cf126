-- The plan of a job is one that a seat can keep.
use Rattle.std.proofs.Common.{◌≡◌, ℕ, ◌≤◌, Bool, true, false, cond, ◌&&◌, ltb, leb, Some, None, refl, subst, arith}
use Rattle.std.proofs.lemmas.Bool.{and_parts, leb-true, ltb-true, ltb-false, cond_both}
use Rattle.plan.specs.declared.numbers.Plan.{Plan}
use Rattle.plan.specs.Plan.{PlanLaw, in_range, many_runs, one_run, plan_of, planned}
use Rattle.plan.proofs.Law.{many_law, one_law}
use Rattle.history.specs.Moves.{Pays}

module _ (α p w : ℕ) where
  pub range_parts : in_range α p w ≡ true → (1 ≤ α) × (α ≤ 32) × (1 ≤ p) × (1 ≤ w)
  range_parts q =
      let x = and_parts (leb 1 α && leb α 32) ((leb 1 p && leb p 60000) && (leb 1 w && leb w 1024)) q in
      let y = and_parts (leb 1 α) (leb α 32) x.0 in
      let z = and_parts (leb 1 p && leb p 60000) (leb 1 w && leb w 1024) x.1 in
      let u = and_parts (leb 1 p) (leb p 60000) z.0 in
      let v = and_parts (leb 1 w) (leb w 1024) z.1 in
      (leb-true 1 α y.0, leb-true α 32 y.1, leb-true 1 p u.0, leb-true 1 w v.0)

  law_in_range : in_range α p w ≡ true → PlanLaw α p w (plan_of α p w)
  law_in_range q =
      let r = range_parts q in
      cond_both (ltb α w) (many_runs α p w) (one_run α p w) (PlanLaw α p w)
      (λ e. many_law α p w r.0 r.2 (ltb-true α w e))
      (λ e. one_law α p w r.2 r.3 (ltb-false α w e))

  law_by : (plan : Plan) (b : Bool) → (b ≡ true → PlanLaw α p w (plan_of α p w)) → cond b (Some (plan_of α p w)) None ≡ Some plan → PlanLaw α p w plan
  law_by plan true law is = let same : plan_of α p w ≡ plan = cc in subst (PlanLaw α p w) same (law refl)
  law_by plan false law is = let z : ◌≡◌ {A = ℕ} 0 1 = cc in absurd (omega arith)

  pub planned_law : (plan : Plan) → planned α p w ≡ Some plan → PlanLaw α p w plan
  planned_law plan is = law_by plan (in_range α p w) law_in_range is

  pub planned_pays : (plan : Plan) → planned α p w ≡ Some plan → Pays α plan
  planned_pays plan is =
      let law = planned_law plan is in
      record { lasts = law.lasts; writes_some = law.writes_some; covered = law.won_back }
