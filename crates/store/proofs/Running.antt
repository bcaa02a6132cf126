-- One run of a seat, as a step of a tick.
use Rattle.std.proofs.lemmas.Grind.{common_steps}
use Rattle.std.proofs.Common.{◌≡◌, ℕ, ◌+◌, ◌-◌, ◌*◌, ◌^◌, ◌<◌, ◌≤◌, true, ◌∷◌, length, sym, refl, ap, ◌∙◌, subst, arith, rules}
use Rattle.chip.specs.Meaning.{Meaning}
use Rattle.chip.specs.Calls.{wiped}
use Rattle.ledger.specs.declared.ledger.Ledger.{Ledger}
use Rattle.ledger.specs.Books.{Books, tokens, used_seat, ran_once}
use Rattle.ledger.specs.Of.{books_of}
use Rattle.ledger.specs.Fair.{FairBooks}
use Rattle.ledger.specs.Steps.{owes, made_one}
use Rattle.ledger.specs.Settled.{SettledBut}
use Rattle.ledger.proofs.Answered.{used_parts}
use Rattle.ledger.proofs.Facts.{fair_of}
use Rattle.ledger.proofs.Settles.{owing, made_one_is, owes_less, ran_settled}
use Rattle.history.specs.Pages.{deads}
use Rattle.history.specs.History.{History, asked, erased}
use Rattle.history.specs.Work.{Emptying, after_wipe}
use Rattle.history.proofs.Counts.{kinds_sum}
use Rattle.pages.specs.declared.emptied.Emptied.{Emptied}
use Rattle.pages.specs.declared.tables.Tables.{Tables}
use Rattle.pages.specs.Tied.{maps_of, page_in}
use Rattle.pages.specs.Recycle.{per_block, all_free, CanRecycle, Recycled}
use Rattle.store.specs.State.{Standing}
use Rattle.store.specs.declared.ticked.Ticked.{Ticked}
use Rattle.store.specs.State.{paid_for, SoundAt}
use Rattle.store.specs.Tick.{Recycle, Walk, runs_free, runs_recycled}
use Rattle.store.specs.Effects.{desk_of}
use Rattle.store.specs.Walking.{Few, one_run, one_recycle, CanRun, Ran}
use Rattle.store.proofs.Collecting.{same_per, same_blocks, can_recycle, sound_ran, sound_recycled}

pub small_counts : (n : ℕ) (k : Ticked) (m : Meaning) → Few n k m → n < 8192 → (k.runs + 1 < 2 ^ 32) × (k.recycles + 1 < 2 ^ 32)
small_counts n k m few little = search rules

-- a recycle, as the history of a tick tells it
recycle_told : (m : Meaning) (b : Books) (t : Tables) (s : SoundAt m b t) (copies tries : ℕ) (n : Meaning) (u : Tables) (r : Recycled m t b.frame.alpha copies tries n u) (h : History)
    → Recycle b.frame (record { past = h; maps = maps_of t; pages = m.pages; start = t.start }) copies tries
    (record { past = erased r.block ∷ (r.answers h).0; maps = maps_of u; pages = n.pages; start = u.start })
recycle_told m b t s copies tries n u r h =
    let f = b.frame in
    let per : per_block t ≡ f.pages_per_block = sym (same_per m b t s) in
    let e = r.answers h in
    record {
      block = r.block;
      there = subst (λ x. r.block < x) (sym (same_blocks m b t s)) r.there;
      enough = subst (λ x. f.alpha ≤ deads (maps_of t) (page_in m.pages) (r.block * x) x) per r.enough;
      before = record { past = e.0; maps = maps_of r.passed; pages = r.left.pages; start = r.passed.start };
      emptied =
          subst (λ x. Emptying x r.block (asked r.block ∷ h) (maps_of t) m.pages t.start x copies e.0 (maps_of r.passed) r.left.pages r.passed.start) per e.1;
      programs = e.2;
      past = refl;
      maps = r.map;
      pages = r.pages ∙ ap (λ x. wiped x r.block r.left.pages) per;
      start = r.start ∙ ap (λ x. after_wipe x r.block r.passed.start) per;
    }

module _ {C H : Type 0} {means : C → Meaning} (n i : ℕ) (k : Ticked) (s : Standing means H) (can : CanRun n i k s) where
  fair : FairBooks (books_of s.ledger)
  fair = fair_of s.ledger

  there : i < length (books_of s.ledger).seats
  there = let o = owing (books_of s.ledger) i fair can.owing in omega (arith, fair.eight, used_there o.0)
    where
      used_there : used_seat (books_of s.ledger) i ≡ true → i < 8
      used_there used = let p = used_parts (books_of s.ledger) i used in p.0

  -- ---- there were pages to spare

  module _ (l : Ledger) (made : books_of l ≡ made_one (books_of s.ledger) i) (wide : tokens (books_of s.ledger) + (books_of s.ledger).frame.alpha ≤ all_free s.chip) where
    books_run : books_of l ≡ ran_once (books_of s.ledger) i
    books_run = made ∙ made_one_is (books_of s.ledger) i fair can.owing

    pub ran_free : Ran n i k s (one_run k) (record { chip = s.chip; of = s.of; is = s.is; chooser = s.chooser; is_open = s.is_open; ledger = l; tables = s.tables })
    ran_free =
        record {
          between =
              record {
                sound = subst (λ b. SoundAt s.chip b s.tables) (sym books_run) (sound_ran s.chip (books_of s.ledger) s.tables can.sound i there wide);
                few =
                    record {
                      runs = omega (arith, can.few.runs);
                      recycles = omega (arith, can.few.recycles);
                      copies = omega (arith, can.few.copies);
                      tries = can.few.tries;
                    };
                failed = omega arith;
                sizes = record { blocks = refl; per_block = refl; page_size = refl };
                is_open = refl;
              };
          goes = λ b x h w.
              (h, subst (λ c. Walk b x i true (k.runs + 1) k.recycles k.copies k.tries c (desk_of h s)) (sym books_run) (runs_free w can.owing wide));
          owing = ap (λ c. owes c i + 1) books_run ∙ owes_less (books_of s.ledger) i fair can.owing;
          but = subst (SettledBut i) (sym books_run) (ran_settled (books_of s.ledger) i fair.eight can.but);
        }

  -- ---- a block was recycled

  module _ (short : all_free s.chip < tokens (books_of s.ledger) + (books_of s.ledger).frame.alpha) where
    pub ready : CanRecycle s.chip s.tables (books_of s.ledger).frame.alpha
    ready = can_recycle s.chip (books_of s.ledger) s.tables can.sound i fair can.owing can.but short

    module _ (chip : C) (chooser : H) (d : Emptied) (tables : Tables) (r : Recycled s.chip s.tables (books_of s.ledger).frame.alpha d.copies d.tries (means chip) tables)
        (between l : Ledger) (paid : books_of between ≡ paid_for (d.tries - d.copies) (books_of s.ledger)) (made : books_of l ≡ made_one (books_of between) i) where
      owed : 0 < owes (books_of between) i
      owed = subst (λ c. 0 < owes c i) (sym paid) can.owing

      books_recycled : books_of l ≡ ran_once (paid_for (d.tries - d.copies) (books_of s.ledger)) i
      books_recycled = search rules

      -- few pages of a block are live
      few_copies : d.copies ≤ 32
      few_copies = grind (arith, common_steps, kinds_sum)

      pub small_recycle : (k.copies + d.copies < 2 ^ 32) × (k.tries + d.tries < 2 ^ 32)
      small_recycle = grind (arith, common_steps, few_copies)

      pub ran_recycled : Ran n i k s (one_recycle k d) (record { chip = means chip; of = chip; is = refl; chooser = chooser; is_open = s.is_open; ledger = l; tables = tables })
      ran_recycled =
          record {
            between =
                record {
                  sound =
                      subst (λ b. SoundAt (means chip) b tables) (sym books_recycled)
                      (sound_recycled s.chip (books_of s.ledger) s.tables can.sound i there d.copies d.tries (means chip) tables r);
                  few =
                      record {
                        runs = omega (arith, can.few.runs);
                        recycles = omega (arith, can.few.recycles);
                        copies = omega (arith, can.few.copies, few_copies);
                        tries = omega (arith, can.few.tries, r.failed);
                      };
                  failed = omega (arith, r.failed);
                  sizes = r.sizes;
                  is_open = refl;
                };
            goes = λ b x h w. (
              erased r.block ∷ (r.answers h).0,
              subst
                  (λ c. Walk b x i true (k.runs + 1) (k.recycles + 1) (k.copies + d.copies) (k.tries + d.tries) c (record { past = erased r.block ∷ (r.answers h).0; maps = maps_of tables; pages = (means chip).pages; start = tables.start }))
                  (sym books_recycled)
                  (runs_recycled w can.owing short
                  (recycle_told s.chip (books_of s.ledger) s.tables can.sound d.copies d.tries (means chip) tables r h)),
            );
            owing =
                ap (λ c. owes c i + 1) (made ∙ made_one_is (books_of between) i (fair_of between) owed) ∙ owes_less (books_of between) i (fair_of between) owed ∙ ap (λ c. owes c i) paid;
            but =
                subst (SettledBut i) (sym (made ∙ made_one_is (books_of between) i (fair_of between) owed))
                (ran_settled (books_of between) i (fair_of between).eight (subst (SettledBut i) (sym paid) can.but));
          }
