-- Choices between the constructors of a value.
use Rattle.std.proofs.Common.{◌≡◌, ℕ, Bool, true, false, List, ◌++◌, sym, ap, subst, ◌∙◌}
use Rattle.oa_idl.specs.declared.stop.TreeLimit.{TreeLimit}
use Rattle.oa_idl.specs.promise.Forms.{Word, Then, this}
use Rattle.oa_idl.specs.Reading.{Parser, bind, give, heads, choose}
use Rattle.oa_idl.proofs.Parses.{Parses, Always, NoLimit}
use Rattle.oa_idl.proofs.PartParses.{fact_parses, said_parses}
use Rattle.oa_idl.proofs.ChoiceParses.{choose_parses, then_heads}
use Rattle.oa_idl.proofs.FurtherParses.{end_part_parses}

-- by the next word: the values with a tag begin with a word that passes the test, the others do not
pub tagged_parses : {n : ℕ} {C : Type 0} {R : C → Type 0} {F : C → List Word → Type 0} {K : TreeLimit → C → Type 0} {Q : C
    → Type 0} {first other : Parser C} (test : Word → Bool) (tag : C → Bool)
    → ((c : C) (text more : List Word) → F c text → heads test (text ++ more) ≡ tag c)
    → Parses n (λ c. R c × (tag c ≡ true)) F K Q first → Parses n (λ c. R c × (tag c ≡ false)) F K Q other
    → Parses n R F K Q (choose test first other)
tagged_parses {F = F} test tag begins r q = choose_parses {A = λ c ws. (tag c ≡ true) × F c ws} {B = λ c ws. (tag c ≡ false) × F c ws} test
    (λ c text more h f is. (sym (begins c text more f) ∙ is, f)) (λ c text more h f is. (sym (begins c text more f) ∙ is, f)) (λ c text h f. f.1)
    (λ c text h f. f.1)
    (fact_parses r) (fact_parses q)

-- the values of one constructor
pub branch_parses : {n : ℕ} {A C : Type 0} {R : C → Type 0} {F : C → List Word → Type 0} {K : TreeLimit → A → Type 0} {L : TreeLimit → C
    → Type 0} {P : A → Type 0} {Q : C → Type 0} {read : Parser A} (v : A → C) (proj : C → A)
    → ((c : C) → R c → c ≡ v (proj c)) → ((a : A) → R (v a) × (proj (v a) ≡ a)) → ((l : TreeLimit) (c : C) → R c → L l c → K l (proj c))
    → ((a : A) → P a → Q (v a))
    → Parses n Always (λ a. F (v a)) K P read → Parses n R F L Q (bind read (λ a. give (v a)))
branch_parses {F = F} v proj is back has known r = said_parses {F = λ c. F (v (proj c))} (λ c h. h) (λ c h. h) (λ c t h f. subst (λ z. F z t) (sym (is c h)) f)
    (λ c t h f. subst (λ z. F z t) (is c h) f) (λ c h. h)
    (end_part_parses {F = λ a. F (v a)} proj v r has back known (λ a c h. is c h.0 ∙ ap v h.1))

-- As above, without limits.
pub free_branch_parses : {n : ℕ} {A C : Type 0} {R : C → Type 0} {F : C → List Word → Type 0} {read : Parser A} (v : A → C) (proj : C → A)
    → ((c : C) → R c → c ≡ v (proj c)) → ((a : A) → R (v a) × (proj (v a) ≡ a)) → Parses n Always (λ a. F (v a)) NoLimit Always read
    → Parses n R F NoLimit Always (bind read (λ a. give (v a)))
free_branch_parses {F = F} v proj is back r = branch_parses {F = F} v proj is back (λ l c h k. tt) (λ a h. tt) r

-- a stretch that begins with a word which passes a test
pub first_heads : {G : List Word → Type 0} (test other : Word → Bool) (v : Bool) → ((w : Word) → other w ≡ true → test w ≡ v)
    → (text more : List Word) → Then (this other) G text → heads test (text ++ more) ≡ v
first_heads test other v is text more f =
    then_heads test v text more (λ front left h. ap (λ (ws : List Word). heads test (ws ++ left)) h.parts ∙ is h.word h.is) f
