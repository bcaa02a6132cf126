-- What each call adds to a history that keeps the promise: its entry, after what chip and chooser answered during it.
use Rattle.std.proofs.lemmas.Grind.{common_steps}
use Rattle.std.proofs.Common.{ℕ, zero, suc, Bool, false, List, ◌∷◌, length, Ok, Err, Option, Result, sym, refl, subst, arith}
use Rattle.chip.specs.Meaning.{Page, Meaning}
use Rattle.plan.specs.declared.numbers.Plan.{Plan}
use Rattle.ledger.specs.declared.frame.Frame.{Frame}
use Rattle.ledger.specs.declared.refusal.Refusal.{Refusal}
use Rattle.ledger.specs.Books.{Books}
use Rattle.history.specs.History.{Entry, programmed, asked, erased, History}
use Rattle.history.specs.Work.{Tried, none, again, Written, Emptying, begun, passed, copied, erased_first}
use Rattle.store.specs.State.{Standing}
use Rattle.store.specs.declared.store.Permit.{Permit}
use Rattle.store.specs.declared.ticked.Ticked.{Ticked}
use Rattle.store.specs.State.{Sound}
use Rattle.store.specs.Tick.{Desk, Recycle, Walk, begun as walk_begun, unused, enters, runs_free, runs_recycled, ends}
use Rattle.store.specs.Effects.{Opens, Admits, Notices, Takes, Returns, Saves, Reads, Ticks}
use Rattle.store.specs.Calls.{entry_open, entry_admit, entry_notice, entry_take, entry_return, entry_save, entry_read, entry_tick, erases, bytes_read, Grows, still, heard, Run, then_open, then_admit, then_notice, then_take, then_return, then_store, then_no_store, then_read, then_tick, then_no_tick, Entered}
use Rattle.store.proofs.PromiseKept.{run_sound, run_promised}

-- ---- answers of chip and chooser alone

grows_on : {h t u : History} → Grows h t → Grows t u → Grows h u
grows_on g still = g
grows_on g (heard e answer more) = heard e answer (grows_on g more)

erased_grows : (n : ℕ) (h : History) → Grows h (erased_first n h)
erased_grows zero h = still
erased_grows (suc n) h = heard (erased n) refl (erased_grows n h)

erases_grows : (n : ℕ) (r : Result (Unit {0}) Refusal) (h : History) → Grows h (erases n r h)
erases_grows n (Ok u) h = erased_grows n h
erases_grows n (Err e) h = still

module _ {over : ℕ → Bool} {l : ℕ} {d : List ℕ} {h : History} {pages : List Page} {start : ℕ} where
  tried_grows : {n : ℕ} {t : History} {left : List Page} {from : ℕ} → Tried over l d h pages start n t left from → Grows h t
  tried_grows none = still
  tried_grows (again q r at) = heard (programmed q l d false) refl (tried_grows r)

  written_grows : {tries : ℕ} {h' : History} {maps maps' : ℕ → Option ℕ} {pages' : List Page} {start' : ℕ} → Written over l d tries h maps pages start h' maps' pages' start' → Grows h h'
  written_grows w = subst (Grows h) (sym w.answers) (heard (programmed w.place l d _) refl (tried_grows w.tried))

emptying_grows : {size b : ℕ} {h : History} {maps : ℕ → Option ℕ} {pages : List Page} {start i copies : ℕ} {t : History} {now : ℕ → Option ℕ} {left : List Page} {from : ℕ}
    → Emptying size b h maps pages start i copies t now left from → Grows h t
emptying_grows begun = still
emptying_grows (passed e dead) = emptying_grows e
emptying_grows (copied l d e named is put) = grows_on (emptying_grows e) (written_grows put)

recycle_grows : {f : Frame} {x y : Desk} {copies tries : ℕ} → Recycle f x copies tries y → Grows x.past y.past
recycle_grows {x = x} r =
    subst (Grows x.past) (sym r.past) (heard (erased r.block) refl (grows_on (heard (asked r.block) refl still) (emptying_grows r.emptied)))

walk_grows : {b₀ : Books} {x₀ : Desk} {i runs recycles copies tries : ℕ} {inside : Bool} {b : Books} {x : Desk} → Walk b₀ x₀ i inside runs recycles copies tries b x → Grows x₀.past x.past
walk_grows walk_begun = still
walk_grows (unused w q) = walk_grows w
walk_grows (enters w q) = walk_grows w
walk_grows (runs_free w more room) = walk_grows w
walk_grows (runs_recycled w more few cycle) = grows_on (walk_grows w) (recycle_grows cycle)
walk_grows (ends w q) = walk_grows w

-- ---- the calls

module _ {C H : Type 0} {means : C → Meaning} (s t : Standing means H) where
  entered : {h past : History} (e : Entry) → Grows h past → Run (e ∷ past) t → Entered e h t
  entered {past = past} e grows run = grind (arith, common_steps, run_promised)

  pub entered_open : (numbers alpha pool : ℕ) (r : Result (Unit {0}) Refusal) → (Sound s → Opens s numbers alpha pool r t)
      → (h : History) → Run h s → Entered (entry_open numbers alpha pool r) h t
  entered_open numbers alpha pool r does h run =
      entered (entry_open numbers alpha pool r) (erases_grows s.chip.blocks r h) (then_open numbers alpha pool r run (does (run_sound run)))

  pub entered_admit : (i p w : ℕ) (r : Result Plan Refusal) → (Sound s → Admits s i p w r t) → (h : History) → Run h s → Entered (entry_admit i p w r) h t
  entered_admit i p w r does h run = entered (entry_admit i p w r) still (then_admit i p w r run (does (run_sound run)))

  pub entered_notice : (i : ℕ) (r : Result (Unit {0}) Refusal) → (Sound s → Notices s i r t) → (h : History) → Run h s → Entered (entry_notice i r) h t
  entered_notice i r does h run = entered (entry_notice i r) still (then_notice i r run (does (run_sound run)))

  pub entered_take : (i : ℕ) (r : Result Permit Refusal) → (Sound s → Takes s i r t) → (h : History) → Run h s → Entered (entry_take i r) h t
  entered_take i r does h run = entered (entry_take i r) still (then_take i r run (does (run_sound run)))

  pub entered_return : (i : ℕ) (r : Result (Unit {0}) Refusal) → (Sound s → Returns s i r t) → (h : History) → Run h s → Entered (entry_return i r) h t
  entered_return i r does h run = entered (entry_return i r) still (then_return i r run (does (run_sound run)))

  pub entered_save : (i n : ℕ) (d : List ℕ) (r : Result ℕ Refusal) → (Sound s → Saves s i n d r t) → (h : History) → Run h s → Entered (entry_save i n d r) h t
  entered_save i n d (Ok tries) does h run =
      let e = does (run_sound run) in
      let work = e.1 h in
      entered (entry_save i n d (Ok tries)) (written_grows work.1.wrote) (then_store i n d tries run e.0 work.1)
  entered_save i n d (Err x) does h run = entered (entry_save i n d (Err x)) still (then_no_store i n d x run (does (run_sound run)))

  pub entered_read : (n : ℕ) (before after : List ℕ) (r : Result ℕ Refusal) → (Sound s → Reads s n before r t after)
      → (h : History) → Run h s → Entered (entry_read n (length before) (bytes_read r after) r) h t
  entered_read n before after r does h run =
      entered (entry_read n (length before) (bytes_read r after) r) still (then_read n before after r run (does (run_sound run)))

  pub entered_tick : (r : Result Ticked Refusal) → (Sound s → Ticks s r t) → (h : History) → Run h s → Entered (entry_tick r) h t
  entered_tick (Ok k) does h run =
      let work = does (run_sound run) h in
      entered (entry_tick (Ok k)) (walk_grows work.1.walk) (then_tick k run work.1)
  entered_tick (Err e) does h run = entered (entry_tick (Err e)) still (then_no_tick e run (does (run_sound run)))
