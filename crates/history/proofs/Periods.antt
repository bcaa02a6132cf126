-- How a tenure and a meta-period grow by one entry.
use Rattle.std.proofs.Common.{◌≡◌, ℕ, ◌+◌, ◌-◌, ◌%◌, ◌<◌, Bool, true, false, cond, ◌&&◌, ◌||◌, eqb, [], ◌∷◌, length, drop, sym, refl, ap, ◌∙◌, mod-eq_of_lt, arith}
use native.Mathlib.Nat.{mod-add-mod, mod_self}
use Rattle.std.proofs.lemmas.Bool.{ne_eqb, cond-true, cond-false}
use Rattle.plan.specs.declared.numbers.Plan.{Plan}
use Rattle.history.specs.History.{
  Deed,
  admitted,
  noticed,
  granted,
  handed_back,
  stored,
  Entry,
  opened,
  did,
  told,
  ticked,
  refused,
  programmed,
  asked,
  erased,
  History,
  count,
  any,
  since,
  recent,
  tick_of,
  admission,
  seat_plan,
  tenure,
  elapsed,
  period,
  period_start,
}

-- ---- the clock

-- one more tick within a meta-period
pub mod_next : (n m : ℕ) → n % m + 1 < m → (n + 1) % m ≡ n % m + 1
mod_next n m h = sym (mod-add-mod n m 1) ∙ mod-eq_of_lt h

-- the tick that ends a meta-period
pub mod_turn : (n m : ℕ) → n % m + 1 ≡ m → (n + 1) % m ≡ 0
mod_turn n m h = sym (mod-add-mod n m 1) ∙ ap (λ k. k % m) h ∙ mod_self m

-- ---- one more entry

pub count_one : (f : Entry → Bool) (e : Entry) (h : History) → f e ≡ true → count f (e ∷ h) ≡ count f h + 1
count_one f e h q = cond-true (f e) _ _ q

pub count_none : (f : Entry → Bool) (e : Entry) (h : History) → f e ≡ false → count f (e ∷ h) ≡ count f h
count_none f e h q = cond-false (f e) _ _ q

pub any_now : (f : Entry → Bool) (e : Entry) (h : History) → f e ≡ true → any f (e ∷ h) ≡ true
any_now f e h q = ap (λ b. b || any f h) q

pub any_before : (f : Entry → Bool) (e : Entry) (h : History) → f e ≡ false → any f (e ∷ h) ≡ any f h
any_before f e h q = ap (λ b. b || any f h) q

pub since_now : (f : Entry → Bool) (e : Entry) (h : History) → f e ≡ true → since f (e ∷ h) ≡ []
since_now f e h q = cond-true (f e) _ _ q

pub since_before : (f : Entry → Bool) (e : Entry) (h : History) → f e ≡ false → since f (e ∷ h) ≡ e ∷ since f h
since_before f e h q = cond-false (f e) _ _ q

pub recent_quiet : (n : ℕ) (e : Entry) (h : History) → tick_of e ≡ false → recent n (e ∷ h) ≡ e ∷ recent n h
recent_quiet n e h q = cond-false (tick_of e) _ _ q

pub recent_none : (e : Entry) (h : History) → tick_of e ≡ true → recent 0 (e ∷ h) ≡ []
recent_none e h q = cond-true (tick_of e) _ _ q

pub recent_tick : (n : ℕ) (e : Entry) (h : History) → tick_of e ≡ true → recent (n + 1) (e ∷ h) ≡ e ∷ recent n h
recent_tick n e h q =
    let apart : eqb (n + 1) 0 ≡ false = ne_eqb (n + 1) 0 (omega arith) in
    let less : n + 1 - 1 ≡ n = omega arith in
    cond-true (tick_of e) _ _ q ∙ cond-false (eqb (n + 1) 0) _ _ apart ∙ ap (λ k. e ∷ recent k h) less

cond_same : {X : Type 0} (b : Bool) (x : X) → cond b x x ≡ x
cond_same true x = refl
cond_same false x = refl

and_true : (b : Bool) → (b && true) ≡ b
and_true true = refl
and_true false = refl

plan_stays_deed : (i j : ℕ) (d : Deed) (h : History) → admission i (did j d) ≡ false → seat_plan i (did j d ∷ h) ≡ seat_plan i h
plan_stays_deed i j (admitted p w plan) h q = cond-false (eqb j i) _ _ (sym (and_true (eqb j i)) ∙ q)
plan_stays_deed i j noticed h q = cond_same (eqb j i) (seat_plan i h)
plan_stays_deed i j granted h q = cond_same (eqb j i) (seat_plan i h)
plan_stays_deed i j handed_back h q = cond_same (eqb j i) (seat_plan i h)
plan_stays_deed i j (stored n b t) h q = cond_same (eqb j i) (seat_plan i h)

pub plan_stays : (i : ℕ) (e : Entry) (h : History) → admission i e ≡ false → seat_plan i (e ∷ h) ≡ seat_plan i h
plan_stays i (opened m y p) h q = refl
plan_stays i (did j d) h q = plan_stays_deed i j d h q
plan_stays i (told n m d) h q = refl
plan_stays i (ticked a b c d) h q = refl
plan_stays i (refused c why) h q = refl
plan_stays i (programmed p l d g) h q = refl
plan_stays i (asked b) h q = refl
plan_stays i (erased b) h q = refl

-- ---- the meta-period goes on over an entry

pub record Goes_on (i : ℕ) (t : Plan) (e : Entry) (h : History) : Type 0 where
  pub plan_on : seat_plan i (e ∷ h) ≡ seat_plan i h
  pub tenure_on : tenure i (e ∷ h) ≡ e ∷ tenure i h
  pub period_on : period i t (e ∷ h) ≡ e ∷ period i t h
  pub start_on : period_start i t (e ∷ h) ≡ period_start i t h

module _ (i : ℕ) (t : Plan) (e : Entry) (h : History) (old : admission i e ≡ false) where
  tenure_grows : tenure i (e ∷ h) ≡ e ∷ tenure i h
  tenure_grows = since_before (admission i) e h old

  goes_on : period i t (e ∷ h) ≡ e ∷ period i t h → Goes_on i t e h
  goes_on q =
      record {
        plan_on = plan_stays i e h old;
        tenure_on = tenure_grows;
        period_on = q;
        start_on = ap (λ p. drop (length p) (e ∷ h)) q;
      }

  -- over any entry but a tick
  pub elapsed_quiet : tick_of e ≡ false → elapsed i t (e ∷ h) ≡ elapsed i t h
  elapsed_quiet q = ap (λ x. count tick_of x % t.meta_period) tenure_grows ∙ ap (λ n. n % t.meta_period) (count_none tick_of e (tenure i h) q)

  pub goes_on_quiet : tick_of e ≡ false → Goes_on i t e h
  goes_on_quiet q =
      goes_on (ap (λ n. recent n (tenure i (e ∷ h))) (elapsed_quiet q) ∙ ap (recent (elapsed i t h)) tenure_grows ∙ recent_quiet (elapsed i t h) e (tenure i h) q)

  ticks_grow : tick_of e ≡ true → count tick_of (tenure i (e ∷ h)) ≡ count tick_of (tenure i h) + 1
  ticks_grow q = ap (count tick_of) tenure_grows ∙ count_one tick_of e (tenure i h) q

  -- over a tick that ends no meta-period
  pub elapsed_tick : tick_of e ≡ true → elapsed i t h + 1 < t.meta_period → elapsed i t (e ∷ h) ≡ elapsed i t h + 1
  elapsed_tick q before = ap (λ n. n % t.meta_period) (ticks_grow q) ∙ mod_next (count tick_of (tenure i h)) t.meta_period before

  pub goes_on_tick : tick_of e ≡ true → elapsed i t h + 1 < t.meta_period → Goes_on i t e h
  goes_on_tick q before =
      goes_on (ap (λ n. recent n (tenure i (e ∷ h))) (elapsed_tick q before) ∙ ap (recent (elapsed i t h + 1)) tenure_grows ∙ recent_tick (elapsed i t h) e (tenure i h) q)

  -- a tick that ends one
  pub elapsed_turn : tick_of e ≡ true → elapsed i t h + 1 ≡ t.meta_period → elapsed i t (e ∷ h) ≡ 0
  elapsed_turn q full = ap (λ n. n % t.meta_period) (ticks_grow q) ∙ mod_turn (count tick_of (tenure i h)) t.meta_period full

  pub period_turn : tick_of e ≡ true → elapsed i t h + 1 ≡ t.meta_period → period i t (e ∷ h) ≡ []
  period_turn q full =
      ap (λ n. recent n (tenure i (e ∷ h))) (elapsed_turn q full) ∙ ap (recent 0) tenure_grows ∙ recent_none e (tenure i h) q

  pub start_turn : tick_of e ≡ true → elapsed i t h + 1 ≡ t.meta_period → period_start i t (e ∷ h) ≡ e ∷ h
  start_turn q full = ap (λ p. drop (length p) (e ∷ h)) (period_turn q full)
