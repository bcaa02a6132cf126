-- Which entries are what to a seat.
use Rattle.std.proofs.Common.{◌≡◌, ℕ, Bool, true, false, ◌&&◌, eqb, List, refl, ap, ◌∙◌}
use Rattle.std.proofs.lemmas.Bool.{eq-eqb, ne_eqb, and_left}
use Rattle.history.specs.History.{
  hands_back,
  Call,
  save,
  Deed,
  noticed,
  granted,
  handed_back,
  stored,
  is_admitted,
  is_noticed,
  is_granted,
  is_handed_back,
  is_stored,
  gives_up,
  opened,
  did,
  told,
  refused,
  programmed,
  asked,
  erased,
}
use Rattle.history.proofs.Books.{Marks}

-- a deed of another seat
pub marks_other : (i j : ℕ) (d : Deed) → (j ≡ i → ⊥) → Marks i (did j d) false false false false
marks_other i j d apart =
    let no = ne_eqb j i apart in
    record {
      old = and_left (eqb j i) (is_admitted d) no;
      grants = and_left (eqb j i) (is_granted d) no;
      returns = and_left (eqb j i) (is_handed_back d) no;
      stores = and_left (eqb j i) (is_stored d) no;
      warns = and_left (eqb j i) (is_noticed d) no;
    }

-- a deed of this seat
own : (i : ℕ) (b : Bool) → (eqb i i && b) ≡ b
own i b = ap (λ x. x && b) (eq-eqb i i refl)

marks_own : (i : ℕ) (d : Deed) → is_admitted d ≡ false → Marks i (did i d) (is_granted d) (is_handed_back d) (is_stored d) (is_noticed d)
marks_own i d old =
    record {
      old = own i (is_admitted d) ∙ old;
      grants = own i (is_granted d);
      returns = own i (is_handed_back d);
      stores = own i (is_stored d);
      warns = own i (is_noticed d);
    }

pub marks_granted : (i : ℕ) → Marks i (did i granted) true false false false
marks_granted i = marks_own i granted refl

pub marks_handed_back : (i : ℕ) → Marks i (did i handed_back) false true false false
marks_handed_back i = marks_own i handed_back refl

pub marks_stored : (i n : ℕ) (d : List ℕ) (t : ℕ) → Marks i (did i (stored n d t)) false false true false
marks_stored i n d t = marks_own i (stored n d t) refl

pub marks_noticed : (i : ℕ) → Marks i (did i noticed) false false false true
marks_noticed i = marks_own i noticed refl

-- a refusal
pub marks_refused : (i : ℕ) (c : Call) (why : ℕ) {b : Bool} → gives_up i c why ≡ b → Marks i (refused c why) false b false false
marks_refused i c why q = record { old = refl; grants = refl; returns = q; stores = refl; warns = refl }

-- a save of this seat, refused
pub gives_up_own : (i n : ℕ) (d : List ℕ) (why : ℕ) → gives_up i (save i n d) why ≡ hands_back why
gives_up_own i n d why = own i (hands_back why)

pub gives_up_other : (i j n : ℕ) (d : List ℕ) (why : ℕ) → (j ≡ i → ⊥) → gives_up i (save j n d) why ≡ false
gives_up_other i j n d why apart = and_left (eqb j i) (hands_back why) (ne_eqb j i apart)

-- what says nothing of a seat
pub marks_opened : (i m y p : ℕ) → Marks i (opened m y p) false false false false
marks_opened i m y p = record { old = refl; grants = refl; returns = refl; stores = refl; warns = refl }

pub marks_told : (i n r : ℕ) (d : List ℕ) → Marks i (told n r d) false false false false
marks_told i n r d = record { old = refl; grants = refl; returns = refl; stores = refl; warns = refl }

pub marks_programmed : (i q l : ℕ) (d : List ℕ) (g : Bool) → Marks i (programmed q l d g) false false false false
marks_programmed i q l d g = record { old = refl; grants = refl; returns = refl; stores = refl; warns = refl }

pub marks_asked : (i b : ℕ) → Marks i (asked b) false false false false
marks_asked i b = record { old = refl; grants = refl; returns = refl; stores = refl; warns = refl }

pub marks_erased : (i b : ℕ) → Marks i (erased b) false false false false
marks_erased i b = record { old = refl; grants = refl; returns = refl; stores = refl; warns = refl }
