-- Every history that the calls of a store can make keeps the promise.
use Rattle.chip.specs.Meaning.{Meaning}
use Rattle.std.proofs.lemmas.Grind.{common_steps}
use Rattle.std.proofs.Common.{◌≡◌, Bool, true, false, [], refl, rules, arith}
use Rattle.history.specs.History.{History}
use Rattle.history.specs.Promise.{Promised}
use Rattle.history.proofs.Follows.{follows_promised, shut_promised}
use Rattle.store.specs.State.{Standing}
use Rattle.store.specs.State.{Sound, view_of}
use Rattle.store.specs.Calls.{Run, fresh, then_open, then_admit, then_notice, then_take, then_return, then_store, then_no_store, then_read, then_tick, then_no_tick}
use Rattle.store.proofs.Booking.{open_sound}
use Rattle.store.proofs.Invariant.{Inv, inv_open, shut_inv}
use Rattle.store.proofs.OpensKept.{open_call_inv, no_tick_inv}
use Rattle.store.proofs.SeatsKept.{admit_inv, notice_inv, take_inv, return_inv}
use Rattle.store.proofs.SavesKept.{stored_inv, no_store_inv}
use Rattle.store.proofs.ReadsKept.{read_inv}
use Rattle.store.proofs.TicksKept.{tick_inv}

module _ {C H : Type 0} {means : C → Meaning} where
  pub run_inv : {h : History} {s : Standing means H} → Run h s → Inv h s
  run_inv (fresh {s = s} shut) = shut_inv [] s shut tt
  run_inv (then_open {h = h} {s = s} {t = t} numbers alpha pool r run e) = open_call_inv h s t numbers alpha pool r e (run_inv run)
  run_inv (then_admit {h = h} {s = s} {t = t} i p w r run e) = admit_inv h s t i p w r e (run_inv run)
  run_inv (then_notice {h = h} {s = s} {t = t} i r run e) = notice_inv h s t i r e (run_inv run)
  run_inv (then_take {h = h} {s = s} {t = t} i r run e) = take_inv h s t i r e (run_inv run)
  run_inv (then_return {h = h} {s = s} {t = t} i r run e) = return_inv h s t i r e (run_inv run)
  run_inv (then_store {h = h} {h' = h'} {s = s} {t = t} i n d tries run none e) = stored_inv s t i n d h h' tries none e (run_inv run)
  run_inv (then_no_store {h = h} {s = s} {t = t} i n d x run e) = no_store_inv s t i n d h x e (run_inv run)
  run_inv (then_read {h = h} {s = s} {t = t} n before after r run e) = read_inv h s t n before after r e (run_inv run)
  run_inv (then_tick {h = h} {h' = h'} {s = s} {t = t} k run e) = tick_inv h h' s t k e (run_inv run)
  run_inv (then_no_tick {h = h} {s = s} {t = t} x run e) = no_tick_inv h s t x e (run_inv run)

  module _ (h : History) (s : Standing means H) (inv : Inv h s) where
    sound_by : (o : Bool) → s.is_open ≡ o → Sound s
    sound_by true is = open_sound s is (inv_open h s is inv).sound
    sound_by false is = search rules

    promised_by : (o : Bool) → s.is_open ≡ o → Promised s.chip h (view_of s)
    promised_by true is = grind (arith, common_steps, follows_promised)
    promised_by false is = grind (arith, common_steps, shut_promised)

  pub run_sound : {h : History} {s : Standing means H} → Run h s → Sound s
  run_sound {h} {s} run = sound_by h s (run_inv run) s.is_open refl

  pub run_promised : {h : History} {s : Standing means H} → Run h s → Promised s.chip h (view_of s)
  run_promised {h} {s} run = promised_by h s (run_inv run) s.is_open refl
