-- What leaves the seats as they were: what a chip and a chooser answer during a call, and all that comes before the opening.
use Rattle.std.proofs.Common.{◌≡◌, ℕ, zero, suc, Bool, true, false, List, [], ◌∷◌, ◌++◌, Option, sym, refl, ap, subst, arith}
use Rattle.std.proofs.lemmas.Bool.{both_ways, or_parts}
use Rattle.chip.specs.Meaning.{Page}
use Rattle.ledger.specs.declared.frame.Frame.{Frame}
use Rattle.ledger.specs.declared.seat.Status.TheVariants.{Empty}
use Rattle.ledger.specs.declared.seat.Seat.{Seat}
use Rattle.history.specs.History.{
  hands_back,
  Call,
  opening,
  admit,
  notice,
  take,
  hand_back,
  save,
  read,
  tick,
  Entry,
  opened,
  did,
  told,
  ticked,
  refused,
  programmed,
  asked,
  erased,
  History,
  any,
}
use Rattle.history.specs.Promise.{is_call, ShutRefusal, ShutPromise}
use Rattle.history.specs.Work.{Tried, none, again, Written, Emptying, begun, passed, copied, erased_first}
use Rattle.history.specs.Moves.{SaveRefused, RefusalStep, Step, Answered, Run, fresh, then_entry}

answered : (e : Entry) (l : ℕ → Seat) → is_call e ≡ false → Answered e l
answered (opened m y p) l q = tt
answered (did j d) l q = tt
answered (told n r d) l q = tt
answered (ticked n r c t) l q = absurd (both_ways true q refl)
answered (refused c why) l q = tt
answered (programmed p k d g) l q = tt
answered (asked b) l q = tt
answered (erased b) l q = tt

still : (f : Frame) (i : ℕ) (s : Seat) (e : Entry) → is_call e ≡ false → Step f i e s s
still f i s (opened m y p) q = refl
still f i s (did j d) q = absurd (both_ways true q refl)
still f i s (told n r d) q = refl
still f i s (ticked n r c t) q = absurd (both_ways true q refl)
still f i s (refused c why) q = absurd (both_ways true q refl)
still f i s (programmed p l d g) q = refl
still f i s (asked b) q = refl
still f i s (erased b) q = refl

-- a stretch of history with no call in it
pub run_through : {f : Frame} {h : History} {l : ℕ → Seat} (t : History) → any is_call t ≡ false → Run f h l → Run f (t ++ h) l
run_through [] q run = run
run_through {f = f} {l = l} (e ∷ t) q run =
    let parts = or_parts (is_call e) (any is_call t) q in
    then_entry e (run_through t parts.1 run) (answered e l parts.0) (λ i. still f i (l i) e parts.0)

-- the work of the store enters no call
pub run_tried : {f : Frame} {l : ℕ → Seat} {over : ℕ → Bool} {label : ℕ} {d : List ℕ} {h : History} {pages : List Page} {start n : ℕ} {t : History} {left : List Page} {from : ℕ}
    → Run f h l → Tried over label d h pages start n t left from → Run f t l
run_tried run none = run
run_tried {label = label} {d = d} run (again q r at) = then_entry (programmed q label d false) (run_tried run r) tt (λ i. refl)

pub run_written : {f : Frame} {l : ℕ → Seat} {over : ℕ → Bool} {label tries : ℕ} {d : List ℕ} {h h' : History} {maps maps' : ℕ → Option ℕ} {pages pages' : List Page} {start start' : ℕ}
    → Run f h l → Written over label d tries h maps pages start h' maps' pages' start' → Run f h' l
run_written {f = f} {l = l} {label = label} {d = d} run w =
    subst (λ x. Run f x l) (sym w.answers) (then_entry (programmed w.place label d true) (run_tried run w.tried) tt (λ i. refl))

pub run_emptying : {f : Frame} {l : ℕ → Seat} {size b : ℕ} {h : History} {maps : ℕ → Option ℕ} {pages : List Page} {start i copies : ℕ} {t : History} {now : ℕ → Option ℕ} {left : List Page} {from : ℕ}
    → Run f h l → Emptying size b h maps pages start i copies t now left from → Run f t l
run_emptying run begun = run
run_emptying run (passed r dead) = run_emptying run r
run_emptying run (copied label d r named is put) = run_written (run_emptying run r) put

pub run_recycled : {f : Frame} {l : ℕ → Seat} {size b : ℕ} {h h' : History} {maps maps' : ℕ → Option ℕ} {pages pages' : List Page} {start start' i copies : ℕ}
    → Run f h l → Emptying size b (asked b ∷ h) maps pages start i copies h' maps' pages' start' → Run f (erased b ∷ h') l
run_recycled {b = b} run e = then_entry (erased b) (run_emptying (then_entry (asked b) run tt (λ i. refl)) e) tt (λ i. refl)

-- ---- a store that is still shut

shut_step : (f : Frame) (i : ℕ) (s : Seat) (c : Call) (why : ℕ) → s.status ≡ Empty → ShutRefusal c why → RefusalStep f i c why s s
shut_step f i s (opening m y p) why unused q = refl
shut_step f i s (admit j p w) why unused q = refl
shut_step f i s (notice j) why unused q = ((λ same serves out. let z : ◌≡◌ {A = ℕ} 0 1 = cc in omega arith), refl)
shut_step f i s (take j) why unused q = ((λ same grants. let serves = grants.0 in let z : ◌≡◌ {A = ℕ} 0 1 = cc in omega arith), refl)
shut_step f i s (hand_back j) why unused q = ((λ same used. absurd (used unused)), refl)
shut_step f i s (save j n d) why unused q =
    let keeps : hands_back why ≡ false = ap hands_back q in
    ((λ same. subst (λ b. SaveRefused f i b s s) (sym keeps) ((λ used. absurd (used unused)), refl)), (λ apart. refl))
shut_step f i s (read n r) why unused q = refl
shut_step f i s tick why unused q = refl

-- its calls leave every seat empty
pub run_shut : (f : Frame) (h : History) (l : ℕ → Seat) → ((i : ℕ) → (l i).status ≡ Empty) → ShutPromise h → Run f h l
run_shut f [] l unused shut = fresh unused
run_shut f (opened m y p ∷ h) l unused shut = absurd shut.0
run_shut f (did j d ∷ h) l unused shut = absurd shut.0
run_shut f (told n r d ∷ h) l unused shut = absurd shut.0
run_shut f (ticked a b c d ∷ h) l unused shut = absurd shut.0
run_shut f (refused c why ∷ h) l unused shut = then_entry (refused c why) (run_shut f h l unused shut.1) tt (λ i. shut_step f i (l i) c why (unused i) shut.0)
run_shut f (programmed q k d g ∷ h) l unused shut = absurd shut.0
run_shut f (asked b ∷ h) l unused shut = absurd shut.0
run_shut f (erased b ∷ h) l unused shut = absurd shut.0

run_erased : (f : Frame) (n : ℕ) (h : History) (l : ℕ → Seat) → Run f h l → Run f (erased_first n h) l
run_erased f zero h l run = run
run_erased f (suc n) h l run = then_entry (erased n) (run_erased f n h l run) tt (λ i. refl)

-- and so does the opening
pub run_opened : (f : Frame) (h : History) (l : ℕ → Seat) → ((i : ℕ) → (l i).status ≡ Empty) → ShutPromise h
    → Run f (opened f.numbers f.alpha f.pool ∷ erased_first f.blocks h) l
run_opened f h l unused shut = then_entry (opened f.numbers f.alpha f.pool) (run_erased f f.blocks h l (run_shut f h l unused shut)) tt (λ i. refl)
