-- Each call of an open store takes what follows from a history to what follows from the next.
use Rattle.std.proofs.Common.{◌≡◌, ℕ, ◌+◌, ◌-◌, ◌*◌, ◌<◌, ◌≤◌, Bool, true, List, ◌∷◌, length, get_or, replicate, Some, None, Option, sym, refl, ap, subst}
use Rattle.chip.specs.Meaning.{Page, free, written, Meaning}
use Rattle.chip.specs.Calls.{wiped}
use Rattle.chooser.specs.Law.{Yields}
use Rattle.plan.specs.Yield.{YieldRule}
use Rattle.ledger.specs.declared.frame.Frame.{Frame}
use Rattle.ledger.specs.declared.seat.Status.TheVariants.{Empty}
use Rattle.ledger.specs.declared.seat.Seat.{Seat}
use Rattle.history.specs.Pages.{frees, lives, deads}
use Rattle.history.specs.History.{opening, read, Entry, opened, did, told, ticked, refused, asked, erased, stored, History, count, opening_of, dead_in, sum_first}
use Rattle.history.specs.Promise.{View, Given, Kept, is_try, is_good, is_asked, is_call, ShutPromise, Promise, frame_of, Promised}
use Rattle.history.specs.Work.{Written, Emptying, erased_first, Still, at_open, after_save, after_call}
use Rattle.history.specs.Moves.{Step, Answered, runs_due, then_entry}
use Rattle.history.specs.Coupled.{Shows, Coupled}
use Rattle.history.specs.Joined.{OnPages}
use Rattle.history.specs.Follows.{Follows, WithinTick}
use Rattle.history.proofs.Entered.{shut_opening, pages_opened, pages_saved, pages_recycled, counted_recycle, pages_told, pages_unread, pages_too_long, pages_not_offered, mapped_in_range}
use Rattle.history.proofs.Joined.{promise_stands, work_opened}
use Rattle.history.proofs.Kept.{coupled}
use Rattle.history.proofs.Laws.{work_keeps, choice_yields, recycle_keeps}
use Rattle.history.proofs.Reframed.{promise_reaches}
use Rattle.history.proofs.Through.{run_opened, run_written, run_recycled}
use Rattle.history.proofs.Tries.{settled_call}

-- ---- what follows

module _ {f : Frame} {h : History} {l : ℕ → Seat} {maps : ℕ → Option ℕ} {pages : List Page} (s : Follows f h l maps pages) where
  pub follows_opened : opening_of h ≡ Some (f.numbers, f.alpha, f.pool)
  follows_opened = work_opened s.work

  pub follows_kept : 0 < f.pages_per_block → Kept h maps pages
  follows_kept some = (work_keeps f h maps pages some s.work).0

  pub follows_mapped : 0 < f.pages_per_block → (n q : ℕ) → maps n ≡ Some q → n < f.numbers
  follows_mapped some = mapped_in_range f h maps pages (follows_kept some) s.entered

  pub follows_coupled : (i : ℕ) → Coupled f.alpha i h (l i)
  follows_coupled = coupled s.run

pub follows_promise : (f : Frame) (h : History) (l : ℕ → Seat) (v : View) → 0 < f.pages_per_block → Follows f h l v.maps v.pages → Shows v l → Promise f h v
follows_promise f h l v some s shows = promise_stands f h l v some s.run shows s.work s.entered

-- with the frame read off the chip
pub follows_promised : (f : Frame) (m : Meaning) (h : History) (l : ℕ → Seat) (v : View) → 0 < f.pages_per_block → Follows f h l v.maps v.pages → Shows v l
    → m.blocks ≡ f.blocks → m.per_block ≡ f.pages_per_block → m.page_size ≡ f.page_size → Promised m h v
follows_promised f m h l v some s shows blocks per_block page_size = promise_reaches f m h v blocks per_block page_size (follows_promise f h l v some s shows)

-- before the opening
pub shut_promised : (m : Meaning) (h : History) (v : View) → ShutPromise h → Promised m h v
shut_promised m h v shut = subst (λ o. Given o (ShutPromise h) (λ o. Promise (frame_of m o) h v)) (sym (shut_opening h shut)) shut

-- ---- the calls

pub opening_follows : (f : Frame) (h : History) (l : ℕ → Seat) (maps : ℕ → Option ℕ) → ShutPromise h → ((i : ℕ) → (l i).status ≡ Empty) → ((n : ℕ) → maps n ≡ None)
    → Follows f (opened f.numbers f.alpha f.pool ∷ erased_first f.blocks h) l maps (replicate (f.blocks * f.pages_per_block) free)
opening_follows f h l maps shut unused unmapped =
    record {
      run = run_opened f h l unused shut;
      work = at_open h shut unmapped;
      entered = pages_opened f h f.numbers f.alpha f.pool shut;
      settled = refl;
    }

module _ {f : Frame} {h : History} {l : ℕ → Seat} {maps : ℕ → Option ℕ} {pages : List Page} (s : Follows f h l maps pages) where
  -- a call that leaves map and pages as they are
  pub call_follows : (e : Entry) (m : ℕ → Seat) → is_call e ≡ true → Still e → Answered e l → OnPages f e h → ((i : ℕ) → Step f i e (l i) (m i)) → Follows f (e ∷ h) m maps pages
  call_follows e m call still answer says step =
      record { run = then_entry e s.run answer step; work = after_call e s.work still; entered = (says, s.entered); settled = settled_call e h call }

  pub reopening_follows : (m y p : ℕ) → Follows f (refused (opening m y p) 1 ∷ h) l maps pages
  reopening_follows m y p =
      call_follows (refused (opening m y p) 1) l refl tt tt (subst (λ o. Given o ((1 < 1) × (1 < 6)) (λ o. ◌≡◌ {A = ℕ} 1 1)) (sym (follows_opened s)) refl) (λ i. refl)

  pub save_follows : {tries : ℕ} {over : ℕ → Bool} {h' : History} {maps' : ℕ → Option ℕ} {pages' : List Page} {start start' : ℕ} (m : ℕ → Seat) (i n : ℕ) (d : List ℕ)
      → n < f.numbers → length d ≤ f.page_size → Written over n d tries h maps pages start h' maps' pages' start'
      → ((k : ℕ) → Step f k (did i (stored n d tries)) (l k) (m k)) → Follows f (did i (stored n d tries) ∷ h') m maps' pages'
  save_follows {tries} m i n d known fits w step =
      record {
        run = then_entry (did i (stored n d tries)) (run_written s.run w) tt step;
        work = after_save i n d tries s.work w;
        entered = pages_saved f i n d s.settled known fits w s.entered;
        settled = refl;
      }

  module _ (some : 0 < f.pages_per_block) where
    -- a read, by what the map leads to
    pub read_follows : (n room q : ℕ) (d : List ℕ) → maps n ≡ Some q → get_or pages q free ≡ written n d → length d ≤ room → Follows f (told n room d ∷ h) l maps pages
    read_follows n room q d named is fits =
        call_follows (told n room d) l refl tt tt
        (pages_told f h maps pages n room q d (follows_kept s some) (follows_mapped s some n q named) named is fits s.entered).0 (λ i. refl)

    pub unsaved_follows : (n room why : ℕ) → maps n ≡ None → Follows f (refused (read n room) why ∷ h) l maps pages
    unsaved_follows n room why named =
        call_follows (refused (read n room) why) l refl tt tt (pages_unread f h maps pages n room why (follows_kept s some) named s.entered).0 (λ i. refl)

    pub short_follows : (n room why q : ℕ) (d : List ℕ) → maps n ≡ Some q → get_or pages q free ≡ written n d → room < length d → Follows f (refused (read n room) why ∷ h) l maps pages
    short_follows n room why q d named is short =
        call_follows (refused (read n room) why) l refl tt tt
        (pages_too_long f h maps pages n room why q d (follows_kept s some) named is short s.entered).0 (λ i. refl)

  pub not_offered_follows : (n room why : ℕ) → f.numbers ≤ n → Follows f (refused (read n room) why ∷ h) l maps pages
  not_offered_follows n room why past =
      call_follows (refused (read n room) why) l refl tt tt (pages_not_offered f h n room why past s.entered).0 (λ i. refl)

  -- ---- a tick

  pub tick_begins : WithinTick f h l maps pages 0 0 0
  tick_begins =
      record {
        run = s.run;
        work = s.work;
        entered = s.entered;
        asks = sym (ap (count is_asked) s.settled);
        goods = sym (ap (count is_good) s.settled);
        programs = sym (ap (count is_try) s.settled);
      }

module _ {f : Frame} {h : History} {l : ℕ → Seat} {maps : ℕ → Option ℕ} {pages : List Page} {r c t : ℕ} (s : WithinTick f h l maps pages r c t) where
  -- a block that the chooser names while free pages do not exceed all tokens by the yield is worth emptying
  pub choice_follows : (high tokens : ℕ) (counts : List ℕ) (b : ℕ) → 0 < f.pages_per_block → 1 ≤ f.alpha
      → YieldRule f.blocks f.pages_per_block f.numbers high f.alpha
      → frees (λ q. get_or pages q free) 0 (f.blocks * f.pages_per_block) < tokens + f.alpha → tokens ≤ high
      → length counts ≡ f.blocks
      → ((k : ℕ) → k < f.blocks → get_or counts k 0 ≡ deads maps (λ q. get_or pages q free) (k * f.pages_per_block) f.pages_per_block)
      → Yields counts b
      → (f.alpha ≤ dead_in f.pages_per_block b h)
      × (lives maps (λ q. get_or pages q free) (b * f.pages_per_block) f.pages_per_block + frees (λ q. get_or pages q free) (b * f.pages_per_block) f.pages_per_block
      ≤ f.pages_per_block - f.alpha)
  choice_follows high tokens counts b some won rule few cap long each fair =
      choice_yields f high tokens h maps pages counts b some won s.work
      (mapped_in_range f h maps pages (work_keeps f h maps pages some s.work).0 s.entered) rule few cap long each fair

  -- one more recycle, of a block with enough dead pages
  pub recycle_follows : {h' : History} {maps' : ℕ → Option ℕ} {pages' : List Page} {start start' copies : ℕ} (b tries : ℕ) → 0 < f.pages_per_block → b < f.blocks
      → f.alpha ≤ dead_in f.pages_per_block b h
      → Emptying f.pages_per_block b (asked b ∷ h) maps pages start f.pages_per_block copies h' maps' pages' start' → count is_try h' ≡ count is_try h + tries
      → WithinTick f (erased b ∷ h') l maps' (wiped f.pages_per_block b pages') (r + 1) (c + copies) (t + tries)
  recycle_follows {h'} {maps'} {pages'} {start} {start'} {copies} b tries some there enough e made =
      let n = counted_recycle r c t tries e made (record { asks = s.asks; goods = s.goods; tries_are = s.programs }) in
      record {
        run = run_recycled s.run e;
        work = (recycle_keeps f b copies h h' maps maps' pages pages' start start' some there s.work e).0;
        entered = pages_recycled f b copies h h' maps maps' pages pages' start start' some there s.work e enough s.entered;
        asks = n.asks;
        goods = n.goods;
        programs = n.tries_are;
      }

  pub tick_follows : (runs : ℕ) (m : ℕ → Seat) → runs ≡ sum_first 8 (λ i. runs_due (l i)) → ((i : ℕ) → Step f i (ticked runs r c t) (l i) (m i)) → Follows f (ticked runs r c t ∷ h) m maps pages
  tick_follows runs m all step =
      record {
        run = then_entry (ticked runs r c t) s.run all step;
        work = after_call (ticked runs r c t) s.work tt;
        entered = ((s.asks, s.goods, s.programs), s.entered);
        settled = refl;
      }
