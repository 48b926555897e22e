-- A parser agrees with a form: the words that it consumes are of the form. If it stops at a word, nothing of the form
-- begins with the words up to and including this one. No sequence of the form is a proper prefix of another.
use Rattle.std.proofs.Common.{◌≡◌, ℕ, ◌≤◌, Bool, true, false, cond, List, [], ◌∷◌, ◌++◌, length, Option, Some, ◌⊎◌, refl, sym, ap}
use Rattle.std.proofs.Common.{subst, ◌∙◌, append_assoc}
use Rattle.std.proofs.lemmas.List.{append-nil}
use Rattle.std.proofs.Math.Logic.{inl, inr}
use Rattle.oa_idl.specs.declared.stop.TreeLimit.{TreeLimit}
use Rattle.oa_idl.specs.declared.stop.Stop.{Stop}
use Rattle.oa_idl.specs.declared.stop.Stop.TheVariants.{Syntax, Memory}
use Rattle.oa_idl.specs.declared.stop.Stop.TheVariants as stops
use Rattle.oa_idl.specs.promise.Forms.{Word, this}
use Rattle.oa_idl.specs.Forms.{BeginsWithWords}
use Rattle.oa_idl.specs.Reading.{ReadStep, Parser, and_then, heads, done, later_words, this_at}
use Rattle.oa_idl.specs.Words.{NamedAt}
use Rattle.oa_idl.specs.Reading.ReadStep.{Got, Stuck}

-- ---- The statements of the theorems.

-- The words that a parser has consumed from the front.
pub record Takes (F : List Word → Type 0) (words left : List Word) : Type 0 where
  pub text : List Word
  pub parts : words ≡ text ++ left
  pub form : F text

-- the value keeps the limit that a reading stopped at
abbrev pub Keeps : {C : Type 0} → (TreeLimit → C → Type 0) → Stop → C → Type 0
Keeps K Syntax c = Unit {0}
Keeps K (stops.Limit l) c = K l c
Keeps K Memory c = Unit {0}

-- a limit is broken at a name, which is the first word that is left
pub record AtName (l : TreeLimit) (left : List Word) : Type 0 where
  pub word : Word
  pub more : List Word
  pub is : left ≡ word ∷ more
  pub named : NamedAt l word

abbrev pub StopsAt : Stop → List Word → Type 0
StopsAt Syntax left = Unit {0}
StopsAt (stops.Limit l) left = AtName l left
StopsAt Memory left = Unit {0}

pub record Stops {C : Type 0} (R : C → Type 0) (F : C → List Word → Type 0) (K : TreeLimit → C → Type 0) (words : List Word) (why : Stop)
    (left : List Word) : Type 0 where
  pub front : List Word
  pub parts : words ≡ front ++ left
  pub named : StopsAt why left
  pub apart : (c : C) (text more : List Word) → R c → Keeps K why c → F c text → BeginsWithWords front left (text ++ more) → ⊥

-- R is the condition on the values, K says which of them keep a limit, and Q is known of a value that has been read.
pub record Parses (n : ℕ) {C : Type 0} (R : C → Type 0) (F : C → List Word → Type 0) (K : TreeLimit → C → Type 0) (Q : C → Type 0)
    (read : List Word → ReadStep C) : Type 0 where
  pub same : (x y : C) (a b s t : List Word) → R x → R y → F x a → F y b → a ++ s ≡ b ++ t → (x ≡ y) × (s ≡ t)
  pub takes : (words : List Word) (x : C) (left : List Word) → length words ≤ n → read words ≡ Got x left
      → (R x × Q x) × Takes (F x) words left
  pub stuck : (words : List Word) (why : Stop) (left : List Word) → length words ≤ n → read words ≡ Stuck why left
      → Stops R F K words why left

abbrev pub Always : {A : Type 0} → A → Type 0
Always x = Unit {0}

abbrev pub NoLimit : {A : Type 0} → TreeLimit → A → Type 0
NoLimit l x = Unit {0}

-- ---- steps and lists

abbrev pub stuck_at : {A : Type 0} → Stop → List Word → ReadStep A
stuck_at why left = Stuck why left

abbrev pub some : {A : Type 0} → A → Option A
some x = Some x

abbrev pub got : {A : Type 0} → A → List Word → ReadStep A
got x left = Got x left

pub got_is : {A : Type 0} (x y : A) (s t : List Word) → got x s ≡ Got y t → (x ≡ y) × (s ≡ t)
got_is x y s t e = (cc, cc)

pub bind_got : {A B : Type 0} (r : ReadStep A) (next : A → Parser B) (y : B) (t : List Word) → and_then r next ≡ Got y t
    → (x : A) × (s : List Word) × (r ≡ Got x s) × (next x s ≡ Got y t)
bind_got (Got x s) next y t e = (x, s, refl, e)
bind_got (Stuck why s) next y t e = absurd cc

-- the first reading stopped, or the second did
pub record Later {A B : Type 0} (r : ReadStep A) (next : A → List Word → ReadStep B) (why : Stop) (t : List Word) : Type 0 where
  pub value : A
  pub left : List Word
  pub first : r ≡ Got value left
  pub second : next value left ≡ Stuck why t

pub bind_stuck : {A B : Type 0} (r : ReadStep A) (next : A → Parser B) (why : Stop) (t : List Word) → and_then r next ≡ Stuck why t
    → (r ≡ Stuck why t) ⊎ Later r next why t
bind_stuck {A} {B} (Got x s) next why t e = inr (record { value = x; left = s; first = refl; second = e })
bind_stuck {A} {B} (Stuck w s) next why t e = inl (same_stop w why s t e)
  where
    same_stop : (w why : Stop) (s t : List Word) → stuck_at {A = B} w s ≡ Stuck why t → stuck_at {A = A} w s ≡ Stuck why t
    same_stop w why s t e = cc

-- A syntax error may be at any word.
pub syntax_stops : {A : Type 0} (words : List Word) (why : Stop) (left : List Word) → stuck_at {A = A} Syntax words ≡ Stuck why left
    → StopsAt why left
syntax_stops words why left e = let z : Syntax ≡ why = cc in subst (λ (v : Stop). StopsAt v left) z tt

pub apart_cons : (w v : Word) (s t : List Word) → w ∷ s ≡ v ∷ t → (w ≡ v) × (s ≡ t)
apart_cons w v s t e = (cc, cc)

-- Words that begin with two sequences continue after the first as the second does.
pub begins_after : (a b left words : List Word) → BeginsWithWords (a ++ b) left words → (s : List Word) × (words ≡ a ++ s) × BeginsWithWords b left s
begins_after a b [] words e = (b, e, refl)
begins_after a b (w ∷ left) words e = (b ++ w ∷ e.0, e.1 ∙ append_assoc a b (w ∷ e.0), (e.0, refl))

pub begins_heads : (test : Word → Bool) (front left words other : List Word) → words ≡ front ++ left → BeginsWithWords front left other
    → heads test words ≡ heads test other
begins_heads test front [] words other e b = ap (heads test) (e ∙ append-nil front ∙ sym b)
begins_heads test [] (w ∷ left) words other e b = ap (heads test) e ∙ ap (heads test) (sym b.1)
begins_heads test (v ∷ front) (w ∷ left) words other e b = ap (heads test) e ∙ ap (heads test) (sym b.1)

pub shorter : (n : ℕ) (words a left : List Word) → length words ≤ n → words ≡ a ++ left → length (a ++ left) ≤ n
shorter n words a left le e = subst (λ (ws : List Word). length ws ≤ n) e le

-- ---- one word

pub test_cases : (b : Bool) → (b ≡ true) ⊎ (b ≡ false)
test_cases true = inl refl
test_cases false = inr refl

pub this_parses : {n : ℕ} (test : Word → Bool) → Parses n Always (λ _. this test) NoLimit Always (this_at test)
unfolding this_at
this_parses {n} test = record {
  same = λ x y a b s t _ _ f g e. same_one a b s t f g e;
  takes = λ words x left le e. takes_one words x left e;
  stuck = λ words why left le e. stops_one words why left e;
}
  where
    same_one : (a b s t : List Word) → this test a → this test b → a ++ s ≡ b ++ t → (done ≡ done) × (s ≡ t)
    same_one a b s t f g e =
        (refl, (apart_cons f.word g.word s t (ap (λ (ws : List Word). ws ++ s) (sym f.parts) ∙ e ∙ ap (λ (ws : List Word). ws ++ t) g.parts)).1)

    takes_one : (words : List Word) (x : Unit {0}) (left : List Word)
        → cond (heads test words) (got done (later_words words)) (stuck_at Syntax words) ≡ Got x left
        → (Always x × Always x) × Takes (this test) words left
    takes_one [] x left e = absurd cc
    takes_one (w ∷ words) x left e = taken (test w) refl e
      where
        taken : (b : Bool) → test w ≡ b → cond b (got done words) (stuck_at Syntax (w ∷ words)) ≡ Got x left
            → (Always x × Always x) × Takes (this test) (w ∷ words) left
        taken true is e = (
          (tt, tt),
          record {
            text = w ∷ [];
            parts = ap (λ (ws : List Word). w ∷ ws) (got_is done x words left e).1;
            form = record { word = w; parts = refl; is = is };
          },
        )
        taken false is e = absurd cc

    stops_one : (words : List Word) (why : Stop) (left : List Word)
        → cond (heads test words) (got done (later_words words)) (stuck_at Syntax words) ≡ Stuck why left
        → Stops Always (λ (_ : Unit {0}). this test) NoLimit words why left
    stops_one [] why left e = record {
      front = [];
      parts = left_is e;
      named = syntax_stops [] why left e;
      apart = λ c text more _ _ f b. never text more f (subst (λ (l : List Word). BeginsWithWords [] l (text ++ more)) (sym (left_is e)) b);
    }
      where
        left_is : stuck_at {A = Unit {0}} Syntax [] ≡ Stuck why left → [] ≡ left
        left_is e = cc

        never : (text more : List Word) → this test text → text ++ more ≡ [] → ⊥
        never text more f b = let k : f.word ∷ more ≡ [] = ap (λ (ws : List Word). ws ++ more) (sym f.parts) ∙ b in absurd cc
    stops_one (w ∷ words) why left e = stopped (test w) refl e
      where
        stopped : (b : Bool) → test w ≡ b → cond b (got done words) (stuck_at Syntax (w ∷ words)) ≡ Stuck why left
            → Stops Always (λ (_ : Unit {0}). this test) NoLimit (w ∷ words) why left
        stopped true is e = absurd cc
        stopped false is e = record {
          front = [];
          parts = left_is e;
          named = syntax_stops (w ∷ words) why left e;
          apart = λ c text more _ _ f b. never text more f (subst (λ (l : List Word). BeginsWithWords [] l (text ++ more)) (sym (left_is e)) b);
        }
          where
            left_is : stuck_at {A = Unit {0}} Syntax (w ∷ words) ≡ Stuck why left → w ∷ words ≡ left
            left_is e = cc

            never : (text more : List Word) → this test text → (others : List Word) × (text ++ more ≡ w ∷ others) → ⊥
            never text more f b =
                let k : f.word ∷ more ≡ w ∷ b.0 = ap (λ (ws : List Word). ws ++ more) (sym f.parts) ∙ b.1 in
                let s : test w ≡ true = ap test (sym (apart_cons f.word w more b.0 k).0) ∙ f.is in
                absurd cc
