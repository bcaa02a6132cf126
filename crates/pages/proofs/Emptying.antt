-- The steps of the loop that empties a block, over plain values.
use Rattle.std.proofs.Common.{◌≡◌, ℕ, ◌+◌, ◌*◌, ◌^◌, ◌<◌, ◌≤◌, false, cond, ltb, [], length, Some, sym, refl, ap, ◌∙◌, subst, inl, inr, add-one, arith, rules}
use Rattle.std.proofs.lemmas.Bool.Decides.{nat_tests}
use Rattle.chip.specs.Meaning.{Meaning}
use Rattle.history.specs.Pages.{frees}
use Rattle.history.specs.History.{History}
use Rattle.history.specs.Work.{Written, begun, passed, copied, in_block}
use Rattle.history.proofs.Tries.{written_adds}
use Rattle.history.proofs.Recycle.{copying_due, copying_frees, copying_fewer}
use Rattle.history.proofs.Laws.{write_costs, emptying_copying}
use Rattle.pages.specs.declared.emptied.Emptied.{Emptied}
use Rattle.pages.specs.declared.tables.Tables.{Tables}
use Rattle.pages.specs.Tied.{maps_of, page_in, Tied}
use Rattle.pages.specs.Write.{held, Wrote}
use Rattle.pages.specs.Copy.{live_in, CanCopy, Moved, Copied}
use Rattle.pages.specs.Recycle.{per_block, CanEmpty, EmptiedTo, added}

pub emptied_none : (m : Meaning) (t : Tables) (b : ℕ) → Tied m.page_size m.pages t → EmptiedTo m t b 0 0 0 m t
emptied_none m t b tied =
    record {
      tried = omega arith;
      failed = refl;
      taken = omega arith;
      sizes = record { blocks = refl; per_block = refl; page_size = refl };
      geometry = refl;
      tied = tied;
      answers = λ h. (h, begun, omega arith);
    }

module _ (m : Meaning) (t : Tables) (b i copies tries : ℕ) (n : Meaning) (u : Tables) (e : EmptiedTo m t b i copies tries n u) (within : i < per_block t) where
  same_per : per_block u ≡ per_block t
  same_per = ap (λ g. g.pages_per_block) e.geometry

  -- copies never run ahead of the pages looked at
  pub copies_few : copies ≤ i
  copies_few =
      let r = e.answers [] in
      let k = emptying_copying t.geometry.sized.2 (omega arith) r.1 in
      copying_fewer (b * per_block t) (per_block t) (maps_of t) (page_in m.pages) i copies (maps_of u) (page_in n.pages) within k

  -- the next page can be copied
  pub can_copy : (buffer : ℕ) → CanEmpty m t b buffer → CanCopy n u b (b * per_block t + i) buffer
  can_copy buffer can =
      record {
        tied = e.tied;
        block = subst (λ g. b < g.blocks) (sym e.geometry) can.block;
        wide = omega (arith, can.wide, e.sizes.page_size);
        room = λ live.
            let r = e.answers [] in
            let k = emptying_copying t.geometry.sized.2 (omega arith) r.1 in
            let due = copying_due (b * per_block t) (per_block t) (maps_of t) (page_in m.pages) i copies (maps_of u) (page_in n.pages) within k live in
            let kept = copying_frees (b * per_block t) (per_block t) (maps_of t) (page_in m.pages) i copies (maps_of u) (page_in n.pages) within k in
            let same : held u (Some b) n.pages ≡ frees (page_in n.pages) (b * per_block t) (per_block t) =
            ap (λ p. frees (page_in n.pages) (b * p) p) same_per in
            omega (arith, due, kept, same, can.room, e.failed, e.taken);
      }

  pass_on : live_in n u (b * per_block t + i) ≡ false → EmptiedTo m t b (i + 1) copies tries n u
  pass_on dead =
      record {
        tried = e.tried;
        failed = e.failed;
        taken = e.taken;
        sizes = e.sizes;
        geometry = e.geometry;
        tied = e.tied;
        answers = λ h. let r = e.answers h in (r.0, rw (add-one i) (passed r.1 dead), r.2);
      }

  pub emptied_pass : (made : ℕ) (o : Meaning) (v : Tables) → made ≡ 0 → live_in n u (b * per_block t + i) ≡ false → o ≡ n → v ≡ u
      → EmptiedTo m t b (i + 1) copies (tries + made) o v
  emptied_pass made o v nothing dead same stay =
      let z : tries + made ≡ tries = omega arith in
      subst (λ x. EmptiedTo m t b (i + 1) copies x o v) (sym z)
      (subst (λ x. EmptiedTo m t b (i + 1) copies tries x v) (sym same) (subst (λ x. EmptiedTo m t b (i + 1) copies tries n x) (sym stay) (pass_on dead)))

  module _ (made : ℕ) (o : Meaning) (v : Tables) (x : Moved n u b (b * per_block t + i) made o v) where
    w : Wrote n u (Some b) x.0 x.1 made o v
    w = x.4

    -- the write, with the sizes that the block was begun with
    put : (h : History) → ((h' : History) × Written (in_block (per_block t) b) x.0 x.1 made h (maps_of u) n.pages u.start h' (maps_of v) o.pages v.start)
    put h =
        let r = w.answers h in
        (r.0, subst (λ p. Written (in_block p b) x.0 x.1 made h (maps_of u) n.pages u.start r.0 (maps_of v) o.pages v.start) same_per r.1)

    pub made_some : 0 < made
    made_some = let r = put [] in omega (arith, r.1.made)

    still_long : length o.pages ≡ length n.pages
    still_long = search rules

    pub emptied_copy : EmptiedTo m t b (i + 1) (copies + 1) (tries + made) o v
    emptied_copy =
        let r = put [] in
        let cost = write_costs (in_block (per_block t) b) x.0 x.1 [] r.0 (maps_of u) (maps_of v) n.pages o.pages u.start v.start made (length n.pages) r.1 refl in
        let ends = ap (frees (page_in o.pages) 0) still_long in
        record {
          tried = omega (arith, e.tried, made_some);
          failed = omega (arith, e.failed, w.failed);
          taken = omega (arith, e.taken, cost, ends);
          sizes =
              record {
                blocks = w.sizes.blocks ∙ e.sizes.blocks;
                per_block = w.sizes.per_block ∙ e.sizes.per_block;
                page_size = w.sizes.page_size ∙ e.sizes.page_size;
              };
          geometry = w.geometry ∙ e.geometry;
          tied = w.tied;
          answers = λ h.
              let r = e.answers h in
              let p = put r.0 in
              let more = written_adds p.1 in
              (p.0, rw (add-one i, add-one copies) (copied x.0 x.1 r.1 x.2 x.3 p.1), omega (arith, r.2, more));
        }

-- the counts as code keeps them
pub counted : (m : Meaning) (t : Tables) (b i : ℕ) (d : Emptied) (n : Meaning) (u : Tables) (made : ℕ) (o : Meaning) (v : Tables) → EmptiedTo m t b i d.copies d.tries n u → i < per_block t
    → Copied n u b (b * per_block t + i) made o v → EmptiedTo m t b (i + 1) (added d made).copies (added d made).tries o v
counted m t b i d n u made o v e within (inl (nothing, dead, same, stay)) =
    let z : d.copies + cond (ltb 0 made) 1 0 ≡ d.copies = grind (arith, nat_tests, nothing) in
    subst (λ x. EmptiedTo m t b (i + 1) x (d.tries + made) o v) (sym z) (emptied_pass m t b i d.copies d.tries n u e within made o v nothing dead same stay)
counted m t b i d n u made o v e within (inr x) =
    let some = made_some m t b i d.copies d.tries n u e within made o v x in
    let z : d.copies + cond (ltb 0 made) 1 0 ≡ d.copies + 1 = grind (arith, nat_tests, some) in
    subst (λ c. EmptiedTo m t b (i + 1) c (d.tries + made) o v) (sym z) (emptied_copy m t b i d.copies d.tries n u e within made o v x)

-- no count is near the end of its type
pub few_tries : (m : Meaning) (t : Tables) (b i copies tries : ℕ) (n : Meaning) (u : Tables) → EmptiedTo m t b i copies tries n u → m.allowance ≤ 65535 → copies ≤ 32 → tries < 2 ^ 32
few_tries m t b i copies tries n u e allowed few = omega (arith, e.failed)

pub added_few : (copies made : ℕ) → copies ≤ 31 → copies + cond (ltb 0 made) 1 0 ≤ 32
added_few copies made few = grind (arith, nat_tests, few)
