-- How many tries and good programs a write adds to the history.
use Rattle.std.proofs.Common.{◌≡◌, ℕ, ◌+◌, Bool, true, false, cond, List, [], ◌∷◌, Option, refl, ap, ◌∙◌, arith}
use Rattle.std.proofs.lemmas.Bool.{cond-true, cond-false}
use Rattle.chip.specs.Meaning.{Page}
use Rattle.history.specs.History.{Entry, programmed, History, count, since}
use Rattle.history.specs.Promise.{is_try, is_good, is_call, during}
use Rattle.history.specs.Work.{Tried, none, again, Written}

pub since_from : (mark : Entry → Bool) (e : Entry) (h : History) → mark e ≡ true → since mark (e ∷ h) ≡ []
since_from mark e h here = cond-true (mark e) [] (e ∷ since mark h) here

pub since_past : (mark : Entry → Bool) (e : Entry) (h : History) → mark e ≡ false → since mark (e ∷ h) ≡ e ∷ since mark h
since_past mark e h past = cond-false (mark e) [] (e ∷ since mark h) past

-- one entry more
pub count_past : (mark f : Entry → Bool) (e : Entry) (h : History) → mark e ≡ false → count f (since mark (e ∷ h)) ≡ cond (f e) (count f (since mark h) + 1) (count f (since mark h))
count_past mark f e h past = ap (count f) (since_past mark e h past)

pub count_from : (mark f : Entry → Bool) (e : Entry) (h : History) → mark e ≡ true → count f (since mark (e ∷ h)) ≡ 0
count_from mark f e h here = ap (count f) (since_from mark e h here)

-- since an entry that `mark` picks, which is no program
module _ (mark : Entry → Bool) (no_program : (q l : ℕ) (d : List ℕ) (g : Bool) → mark (programmed q l d g) ≡ false) where
  count_programmed : (f : Entry → Bool) (q l : ℕ) (d : List ℕ) (g : Bool) (h : History) → count f (since mark (programmed q l d g ∷ h)) ≡ cond (f (programmed q l d g)) (count f (since mark h) + 1) (count f (since mark h))
  count_programmed f q l d g h = count_past mark f (programmed q l d g) h (no_program q l d g)

  module _ {over : ℕ → Bool} {l : ℕ} {d : List ℕ} {h : History} {pages : List Page} {start : ℕ} where
    pub tried_tries : {n : ℕ} {t : History} {left : List Page} {from : ℕ} → Tried over l d h pages start n t left from → count is_try (since mark t) ≡ count is_try (since mark h) + n
    tried_tries none = omega arith
    tried_tries (again {t = t} q r at) = let e = tried_tries r in let f = count_programmed is_try q l d false t in omega arith

    pub tried_goods : {n : ℕ} {t : History} {left : List Page} {from : ℕ} → Tried over l d h pages start n t left from → count is_good (since mark t) ≡ count is_good (since mark h)
    tried_goods none = refl
    tried_goods (again {t = t} q r at) = count_programmed is_good q l d false t ∙ tried_goods r

    module _ {tries : ℕ} {maps maps' : ℕ → Option ℕ} {h' : History} {pages' : List Page} {start' : ℕ} (w : Written over l d tries h maps pages start h' maps' pages' start') where
      pub written_tries : count is_try (since mark h') ≡ count is_try (since mark h) + tries
      written_tries =
          let a = ap (λ x. count is_try (since mark x)) w.answers in
          let f = count_programmed is_try w.place l d true w.before in
          let e = tried_tries w.tried in
          let m = w.made in
          omega arith

      pub written_goods : count is_good (since mark h') ≡ count is_good (since mark h) + 1
      written_goods =
          let a = ap (λ x. count is_good (since mark x)) w.answers in
          let f = count_programmed is_good w.place l d true w.before in
          let e = tried_goods w.tried in
          omega arith

-- the same over the whole history
module _ {over : ℕ → Bool} {l : ℕ} {d : List ℕ} {h : History} {pages : List Page} {start : ℕ} where
  pub tried_adds : {n : ℕ} {t : History} {left : List Page} {from : ℕ} → Tried over l d h pages start n t left from → count is_try t ≡ count is_try h + n
  tried_adds none = omega arith
  tried_adds (again {t = t} q r at) = let e = tried_adds r in omega arith

  pub written_adds : {tries : ℕ} {maps maps' : ℕ → Option ℕ} {h' : History} {pages' : List Page} {start' : ℕ} → Written over l d tries h maps pages start h' maps' pages' start'
      → count is_try h' ≡ count is_try h + tries
  written_adds w =
      let a = ap (count is_try) w.answers in
      let e = tried_adds w.tried in
      let m = w.made in
      omega arith

-- a save that begins right after a call makes as many tries as the history counts for it
pub save_tries : {over : ℕ → Bool} {l tries : ℕ} {d : List ℕ} {h h' : History} {maps maps' : ℕ → Option ℕ} {pages pages' : List Page} {start start' : ℕ} → during h ≡ []
    → Written over l d tries h maps pages start h' maps' pages' start' → count is_try (during h') ≡ tries
save_tries settled w =
    let n = ap (count is_try) settled in
    let t = written_tries is_call (λ q l d g. refl) w in
    omega arith

-- a call was entered last
pub settled_call : (e : Entry) (h : History) → is_call e ≡ true → during (e ∷ h) ≡ []
settled_call e h call = since_from is_call e h call
