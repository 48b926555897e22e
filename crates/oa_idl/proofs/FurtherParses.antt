-- Further readings: with a fact, with a stronger limit, at the end of a text.
use Rattle.std.proofs.Common.{◌≡◌, ℕ, Bool, true, false, List, [], ◌∷◌, ◌++◌, Option, Some, None, refl, sym, ap}
use Rattle.std.proofs.Common.{subst, ◌∙◌}
use Rattle.std.proofs.lemmas.List.{append-nil}
use Rattle.oa_idl.specs.declared.stop.TreeLimit.{TreeLimit}
use Rattle.oa_idl.specs.declared.stop.Stop.{Stop}
use Rattle.oa_idl.specs.declared.stop.Stop.TheVariants.{Syntax, Memory}
use Rattle.oa_idl.specs.declared.stop.Stop.TheVariants as stops
use Rattle.oa_idl.specs.promise.Forms.{Word, Then, ◌▸◌, nothing, given, this, one}
use Rattle.oa_idl.specs.Forms.{BeginsWithWords}
use Rattle.oa_idl.specs.Reading.{Parser, bind, give, this_at}
use Rattle.oa_idl.specs.Reading.{one_at, require, demand}
use Rattle.oa_idl.specs.Words.{never_over}
use Rattle.oa_idl.specs.Reading.ReadStep.{Stuck}
use Rattle.oa_idl.proofs.Parses.{Always, Keeps, NoLimit, Parses, some, stuck_at, syntax_stops}
use Rattle.oa_idl.proofs.PartParses.{fact_parses, give_parses, one_parses, part_parses, said_parses, skip_parses}
use Rattle.oa_idl.proofs.ChoiceParses.{clash}

-- A parser with the same results.
pub alike_parses : {n : ℕ} {C : Type 0} {R : C → Type 0} {F : C → List Word → Type 0} {K : TreeLimit → C → Type 0} {Q : C
    → Type 0} {f g : Parser C} → ((words : List Word) → f words ≡ g words) → Parses n R F K Q f → Parses n R F K Q g
alike_parses alike r = record {
  same = r.same;
  takes = λ words x left le e. r.takes words x left le (alike words ∙ e);
  stuck = λ words why left le e. r.stuck words why left le (alike words ∙ e);
}

-- Only if a test holds.
pub require_parses : {n : ℕ} {C : Type 0} {R : C → Type 0} {F : C → List Word → Type 0} {K : TreeLimit → C → Type 0} {Q : C
    → Type 0} {read : Parser C} (b : Bool) → Parses n R F K Q read → Parses n R (λ c ws. (b ≡ true) × F c ws) K Q (require b read)
unfolding require
require_parses true r = fact_parses (said_parses (λ c h. (h, refl)) (λ c h. h.0) (λ c text h f. f) (λ c text h f. f) (λ c h. h) r)
require_parses {n} {C} {R} {F} {K} {Q} false r = record {
  same = λ x y a b s t hx hy f g e. absurd (clash f.0 refl);
  takes = λ words x left le e. absurd cc;
  stuck =
      λ words why left le e. record {
        front = [];
        parts = stop_left words why left e;
        named = syntax_stops words why left e;
        apart = λ c text more h k f b.
            clash f.0 refl;
      };
}
  where
    stop_left : (words : List Word) (why : Stop) (left : List Word) → stuck_at {A = C} Syntax words ≡ Stuck why left → words ≡ left
    stop_left words why left e = cc

pub then_map : {F G H : List Word → Type 0} (text : List Word) → ((ws : List Word) → G ws → H ws) → Then F G text → Then F H text
then_map text f t = record { front = t.front; back = t.back; parts = t.parts; first = t.first; second = f t.back t.second }

-- a fact at the end
pub add_fact : {F : List Word → Type 0} {P : Type 0} → P → (text : List Word) → F text → Then F (given P) text
add_fact h text f = record { front = text; back = []; parts = sym (append-nil text); first = f; second = record { fact = h; none = refl } }

pub less_fact : {F : List Word → Type 0} {P : Type 0} (text : List Word) → Then F (given P) text → F text
less_fact {F} text f = subst F (sym (f.parts ∙ ap (λ (ws : List Word). f.front ++ ws) f.second.none ∙ append-nil f.front)) f.first

-- ---- a whole text

pub begins_itself : (front left words : List Word) → words ≡ front ++ left → BeginsWithWords front left words
begins_itself front [] words e = e ∙ append-nil front
begins_itself front (w ∷ left) words e = (left, e)

-- ---- ends

pub less_nothing : {F : List Word → Type 0} (text : List Word) → Then F nothing text → F text
less_nothing {F} text f = subst F (sym (f.parts ∙ ap (λ (ws : List Word). f.front ++ ws) f.second ∙ append-nil f.front)) f.first

pub add_nothing : {F : List Word → Type 0} (text : List Word) → F text → Then F nothing text
add_nothing text f = record { front = text; back = []; parts = sym (append-nil text); first = f; second = refl }

-- a last word that says nothing, and the one value that is meant
pub end_parses : {n : ℕ} {C : Type 0} {R : C → Type 0} {L : TreeLimit → C → Type 0} {Q : C → Type 0} (test : Word → Bool) (v : C) → R v
    → Q v → ((c : C) → R c → c ≡ v) → Parses n R (λ _. this test) L Q (bind (this_at test) (λ _. give v))
end_parses test v hr hq only = said_parses {F = λ _. this test ▸ nothing} (λ c h. h) (λ c h. h) (λ c t h f. less_nothing t f) (λ c t h f. add_nothing t f)
    (λ c h. h) (skip_parses test (give_parses v hr hq only))

-- A last part, which determines the value.
pub end_part_parses : {n : ℕ} {A C : Type 0} {F : A → List Word → Type 0} {K : TreeLimit → A → Type 0} {P : A → Type 0} {R : C
    → Type 0} {L : TreeLimit → C → Type 0} {Q : C → Type 0} {read : Parser A}
    (proj : C → A) (v : A → C) → Parses n Always F K P read → ((l : TreeLimit) (c : C) → R c → L l c → K l (proj c))
    → ((a : A) → R (v a) × (proj (v a) ≡ a)) → ((a : A) → P a → Q (v a)) → ((a : A) (c : C) → R c × (proj c ≡ a) → c ≡ v a)
    → Parses n R (λ c. F (proj c)) L Q (bind read (λ a. give (v a)))
end_part_parses {F = F} proj v r has hr hq only = said_parses {F = λ c. F (proj c) ▸ nothing} (λ c h. h) (λ c h. h) (λ c t h f. less_nothing t f)
    (λ c t h f. add_nothing t f) (λ c h. h)
    (part_parses {G = λ _. nothing} proj r has (λ a. give_parses (v a) (hr a) (hq a) (only a)))

-- As above, with a stronger limit.
pub limit_parses : {n : ℕ} {C : Type 0} {R : C → Type 0} {F : C → List Word → Type 0} {K L : TreeLimit → C → Type 0} {Q : C
    → Type 0} {read : Parser C} → ((l : TreeLimit) (c : C) → L l c → K l c) → Parses n R F K Q read → Parses n R F L Q read
limit_parses {n} {C} {R} {F} {K} {L} {Q} {read} has r = record {
  same = r.same;
  takes = r.takes;
  stuck = λ words why left le e.
      let h = r.stuck words why left le e in
      record {
        front = h.front;
        parts = h.parts;
        named = h.named;
        apart =
            λ c text more s k f b. h.apart c text more s (keeps why c k) f b;
      };
}
  where
    keeps : (why : Stop) (c : C) → Keeps L why c → Keeps K why c
    keeps Syntax c k = tt
    keeps (stops.Limit l) c k = has l c k
    keeps Memory c k = tt

-- one word that has a meaning, and no limit
pub sure_parses : {n : ℕ} {A : Type 0} (meaning : Word → Option A)
    → Parses n Always (one meaning) NoLimit Always (one_at meaning never_over)
sure_parses meaning =
    limit_parses (λ l c _ e. absurd cc) (said_parses (λ c h. h) (λ c h. h) (λ c t h f. f) (λ c t h f. f) (λ c h. tt)
    (one_parses meaning never_over (λ l w x e o. absurd cc)))

-- A last word without a value, if the list has a value.
pub demand_parses : {n : ℕ} {B : Type 0} (test : Word → Bool) (o : Option B)
    → Parses n Always (λ b ws. (o ≡ Some b) × this test ws) NoLimit Always (demand o (λ b. bind (this_at test) (λ _. give b)))
unfolding demand
demand_parses {n} {B} test None = record {
  same = λ x y a b s t _ _ f g e. let z = f.0 in absurd cc;
  takes = λ words x left le e. absurd cc;
  stuck =
      λ words why left le e. record {
        front = [];
        parts = stop_left words why left e;
        named = syntax_stops words why left e;
        apart = λ c text more h k f b.
            let z = f.0 in absurd cc;
      };
}
  where
    stop_left : (words : List Word) (why : Stop) (left : List Word) → stuck_at {A = B} Syntax words ≡ Stuck why left → words ≡ left
    stop_left words why left e = cc
demand_parses {n} {B} test (Some v) = said_parses {F = λ b ws. (b ≡ v) × this test ws} (λ c h. h) (λ c h. h) (λ c t h f. (ap some (sym f.0), f.1))
    (λ c t h f. (is c f.0, f.1)) (λ c h. h)
    (fact_parses (end_parses test v (tt, refl) tt (λ c h. h.1)))
  where
    is : (c : B) → some v ≡ Some c → c ≡ v
    is c e = let z : v ≡ c = cc in sym z
