-- The readings of methods read them.
use Rattle.std.proofs.Common.{◌≡◌, ℕ, ◌<◌, Bool, true, false, List, [], ◌∷◌, ◌++◌, length, Option, Some, None, refl, sym, ap, subst, ◌∙◌}
use Rattle.std.proofs.Common.{arith}
use Rattle.std.specs.Prelude.{ℤ, pos, not, is_some, ◌&&◌, ◌||◌, codes}
use Rattle.std.proofs.Math.Logic.{⊎_elim, inl, inr}
use Rattle.std.proofs.lemmas.List.{length-append}
use Rattle.oa_model.specs.declared.var_type.VarType.TheVariants as types
use Rattle.oa_model.specs.declared.var_type.ValueType.{ValueType}
use Rattle.oa_model.specs.declared.var_type.ValueType.TheVariants as values
use Rattle.oa_model.specs.promise.Limits.{max_members}
use Rattle.oa_idl.specs.declared.stop.TreeLimit.{TreeLimit}
use Rattle.oa_idl.specs.declared.stop.TreeLimit.TheVariants as limits
use Rattle.oa_idl.specs.declared.parts.MethodKind.{MethodKind}
use Rattle.oa_idl.specs.declared.parts.Parameter.{Parameter}
use Rattle.oa_idl.specs.declared.seen.MethodSeen.{MethodSeen}
use Rattle.oa_idl.specs.declared.seen.MethodHead.{MethodHead}
use Rattle.oa_idl.specs.promise.MethodValues.{MethodValue}
use Rattle.oa_idl.specs.promise.Forms.{Word, ◌▸◌, where_is, listed, nowhere}
use Rattle.oa_idl.specs.promise.Words.{passes, plain_type, name_of}
use Rattle.oa_idl.specs.Words.{over}
use Rattle.oa_idl.specs.Reading.{heads, done, list_at}
use Rattle.oa_idl.specs.promise.Grammar.{symbol, one_more, closing, MethodAttribute, method_attribute, no_method}
use Rattle.oa_idl.specs.promise.Grammar.{is_form, method_may, method_grow, method_finish, method_head, may_be_void}
use Rattle.oa_idl.specs.promise.Grammar.{may_have_type, result_type, method_body, method, methods}
use Rattle.oa_idl.specs.promise.Grammar.MethodAttribute.{MethodId, Propget, Propput, MethodHelp}
use Rattle.oa_idl.specs.GrammarReading.{closing_at, method_attribute_at, method_full, method_head_at, result_type_at}
use Rattle.oa_idl.specs.GrammarReading.{method_body_at, method_at, methods_at, ends_properties}
use Rattle.oa_idl.proofs.NameLimits.{over_named}
use Rattle.oa_idl.proofs.Parses.{Parses, Always, NoLimit}
use Rattle.oa_idl.proofs.PartParses.{fact_parses, part_parses, said_parses, skip_parses}
use Rattle.oa_idl.proofs.ChoiceParses.{clash}
use Rattle.oa_idl.proofs.FurtherParses.{require_parses}
use Rattle.oa_idl.proofs.Parses.{this_parses}
use Rattle.oa_idl.proofs.PartParses.{give_parses, one_parses}
use Rattle.oa_idl.proofs.ChoiceParses.{choose_parses, then_heads, this_heads}
use Rattle.oa_idl.proofs.FurtherParses.{end_parses, end_part_parses}
use Rattle.oa_idl.proofs.Choices.{tagged_parses, free_branch_parses, first_heads}
use Rattle.oa_idl.proofs.Lists.{KeepsFrom, both, list_parses}
use Rattle.oa_idl.proofs.Heads.{other_sign, sign_heads, one_sign_heads, same_heads, this_some}
use Rattle.oa_idl.proofs.AttributeLists.{attributes_parses}
use Rattle.oa_idl.proofs.Texts.{help_parses, full_left, full_middle, full_right, numbered_parses, value_type_parses, value_type_heads}
use Rattle.oa_idl.proofs.ParameterTexts.{ParameterKeeps, ParameterKept, NoEndLimit, parameters_parses}

-- ---- attributes

abbrev is_id : MethodAttribute → Bool
is_id (MethodId i) = true
is_id Propget = false
is_id Propput = false
is_id MethodHelp = false

abbrev is_get : MethodAttribute → Bool
is_get (MethodId i) = false
is_get Propget = true
is_get Propput = false
is_get MethodHelp = false

abbrev is_put : MethodAttribute → Bool
is_put (MethodId i) = false
is_put Propget = false
is_put Propput = true
is_put MethodHelp = false

abbrev id_in : MethodAttribute → ℤ
id_in (MethodId i) = i
id_in Propget = pos 0
id_in Propput = pos 0
id_in MethodHelp = pos 0

id_heads : (x : MethodAttribute) (text more : List Word) → method_attribute x text → heads (passes (codes "id")) (text ++ more) ≡ is_id x
id_heads (MethodId i) text more f = same_heads (codes "id") text more f
id_heads Propget text more f = one_sign_heads (codes "id") (codes "propget") refl text more f
id_heads Propput text more f = one_sign_heads (codes "id") (codes "propput") refl text more f
id_heads MethodHelp text more f = sign_heads (codes "id") (codes "helpstring") refl text more f

get_heads : (x : MethodAttribute) (text more : List Word) → method_attribute x text
    → heads (passes (codes "propget")) (text ++ more) ≡ is_get x
get_heads (MethodId i) text more f = sign_heads (codes "propget") (codes "id") refl text more f
get_heads Propget text more f = this_heads (passes (codes "propget")) text more f
get_heads Propput text more f = one_sign_heads (codes "propget") (codes "propput") refl text more f
get_heads MethodHelp text more f = sign_heads (codes "propget") (codes "helpstring") refl text more f

put_heads : (x : MethodAttribute) (text more : List Word) → method_attribute x text
    → heads (passes (codes "propput")) (text ++ more) ≡ is_put x
put_heads (MethodId i) text more f = sign_heads (codes "propput") (codes "id") refl text more f
put_heads Propget text more f = one_sign_heads (codes "propput") (codes "propget") refl text more f
put_heads Propput text more f = this_heads (passes (codes "propput")) text more f
put_heads MethodHelp text more f = sign_heads (codes "propput") (codes "helpstring") refl text more f

only_id : (x : MethodAttribute) → Always x × (is_id x ≡ true) → x ≡ MethodId (id_in x)
only_id (MethodId i) h = refl
only_id Propget h = absurd (clash h.1 refl)
only_id Propput h = absurd (clash h.1 refl)
only_id MethodHelp h = absurd (clash h.1 refl)

only_get : (x : MethodAttribute) → (Always x × (is_id x ≡ false)) × (is_get x ≡ true) → x ≡ Propget
only_get (MethodId i) h = absurd (clash h.1 refl)
only_get Propget h = refl
only_get Propput h = absurd (clash h.1 refl)
only_get MethodHelp h = absurd (clash h.1 refl)

only_put : (x : MethodAttribute) → ((Always x × (is_id x ≡ false)) × (is_get x ≡ false)) × (is_put x ≡ true) → x ≡ Propput
only_put (MethodId i) h = absurd (clash h.1 refl)
only_put Propget h = absurd (clash h.1 refl)
only_put Propput h = refl
only_put MethodHelp h = absurd (clash h.1 refl)

only_help : (x : MethodAttribute) → ((Always x × (is_id x ≡ false)) × (is_get x ≡ false)) × (is_put x ≡ false) → x ≡ MethodHelp
only_help (MethodId i) h = absurd (clash refl h.0.0.1)
only_help Propget h = absurd (clash refl h.0.1)
only_help Propput h = absurd (clash refl h.1)
only_help MethodHelp h = refl

-- an attribute that may come
Coming : MethodSeen → MethodAttribute → List Word → Type 0
Coming s x ws = (method_may s x ≡ true) × method_attribute x ws

method_attribute_parses : {n : ℕ} (s : MethodSeen)
    → Parses n Always (λ x ws. (method_may s x ≡ true) × method_attribute x ws) NoLimit Always (method_attribute_at s)
unfolding method_attribute_at Coming
method_attribute_parses s = tagged_parses {F = Coming s} (passes (codes "id")) is_id (λ x text more f. id_heads x text more f.1)
    (free_branch_parses {F = Coming s} (λ i. MethodId i) id_in only_id (λ a. ((tt, refl), refl)) (require_parses (not (is_some s.id)) numbered_parses))
    (tagged_parses {F = Coming s} (passes (codes "propget")) is_get (λ x text more f. get_heads x text more f.1)
    (free_branch_parses {F = Coming s} (λ (_ : Unit {0}). Propget) (λ _. done) only_get (λ a. (((tt, refl), refl), refl))
    (require_parses (not (is_form s.kind)) (this_parses (passes (codes "propget")))))
    (tagged_parses {F = Coming s} (passes (codes "propput")) is_put (λ x text more f. put_heads x text more f.1)
    (free_branch_parses {F = Coming s} (λ (_ : Unit {0}). Propput) (λ _. done) only_put (λ a. ((((tt, refl), refl), refl), refl))
    (require_parses (not (is_form s.kind)) (this_parses (passes (codes "propput")))))
    (free_branch_parses {F = Coming s} (λ (_ : Unit {0}). MethodHelp) (λ _. done) only_help (λ a. ((((tt, refl), refl), refl), refl))
    (require_parses (not s.help) help_parses))))

method_head_parses : {n : ℕ} → Parses n Always method_head NoLimit Always method_head_at
unfolding method_head method_head_at
method_head_parses {n} = attributes_parses method_grow method_full method_finish (λ n s. method_attribute_parses s) not_full n no_method
  where
    not_full : (s : MethodSeen) (x : MethodAttribute) → method_may s x ≡ true → not (method_full s) ≡ true
    not_full s (MethodId i) e = full_left (is_some s.id) (is_form s.kind && s.help) e
    not_full s Propget e = full_middle (is_some s.id) (is_form s.kind) s.help e
    not_full s Propput e = full_middle (is_some s.id) (is_form s.kind) s.help e
    not_full s MethodHelp e = full_right (is_some s.id) (is_form s.kind) s.help e

-- ---- results

abbrev is_void : Option ValueType → Bool
is_void None = true
is_void (Some t) = false

abbrev type_in : Option ValueType → ValueType
type_in None = values.One types.Empty
type_in (Some t) = t

void_heads : (k : MethodKind) (o : Option ValueType) (text more : List Word) → result_type k o text
    → heads (passes (codes "void")) (text ++ more) ≡ is_void o
unfolding result_type plain_type
void_heads k None text more f = this_heads (passes (codes "void")) text more f.1
void_heads k (Some t) text more f = value_type_heads (codes "void") refl refl refl t text more f.1

only_void : (o : Option ValueType) → Always o × (is_void o ≡ true) → o ≡ None
only_void None h = refl
only_void (Some t) h = absurd (clash h.1 refl)

only_type : (o : Option ValueType) → Always o × (is_void o ≡ false) → o ≡ Some (type_in o)
only_type None h = absurd (clash refl h.1)
only_type (Some t) h = refl

result_type_parses : {n : ℕ} (k : MethodKind) → Parses n Always (result_type k) NoLimit Always (result_type_at k)
unfolding result_type result_type_at
result_type_parses k = tagged_parses {F = result_type k} (passes (codes "void")) is_void (λ o text more f. void_heads k o text more f)
    (free_branch_parses {F = result_type k} (λ (_ : Unit {0}). None) (λ _. done) only_void (λ a. ((tt, refl), refl))
    (require_parses (may_be_void k) (this_parses (passes (codes "void")))))
    (free_branch_parses {F = result_type k} (λ t. Some t) type_in only_type (λ a. ((tt, refl), refl)) (require_parses (may_have_type k) value_type_parses))

-- ---- methods

-- a method is none too many, its name is not too long, and its parameters keep the limits
abbrev pub MethodKeeps : ℕ → TreeLimit → MethodValue → Type 0
MethodKeeps n l m = (over limits.Members max_members n m.name ≡ Some l → ⊥)
    × KeepsFrom {B = Unit {0}} one_more (λ k p. ParameterKeeps k l p) NoEndLimit 0 m.parameters tt

abbrev pub MethodKept : ℕ → MethodValue → Type 0
MethodKept n m = (over limits.Members max_members n m.name ≡ None) × KeepsFrom {B = Unit {0}} one_more ParameterKept NoEndLimit 0 m.parameters tt

marks : MethodValue → MethodHead
marks m = record { id = m.id; kind = m.kind }

parameters_of : MethodValue → List Parameter × Unit {0}
parameters_of m = both m.parameters tt

abbrev ps_of : List Parameter × Unit {0} → List Parameter
ps_of p = p.0

method_body_parses : {n : ℕ} (count : ℕ) (h : MethodHead)
    → Parses n (λ m. Always m × (marks m ≡ h)) (method_body h.kind) (λ l m. MethodKeeps count l m) (λ m. MethodKept count m)
    (method_body_at count h)
unfolding method_body_at marks parameters_of
method_body_parses count h = part_parses (λ m. m.value_type) (result_type_parses h.kind) (λ l m r k. tt)
    (λ t. part_parses (λ m. m.name) (one_parses name_of (over limits.Members max_members count) (over_named limits.Members max_members count (λ k. absurd cc)))
    (λ l m r k. k.0) (λ name. skip_parses (passes (codes "("))
    (part_parses parameters_of (parameters_parses h.kind) (λ l m r k. k.1) (λ ps. skip_parses (passes (codes ";"))
    (give_parses (record { id = h.id; kind = h.kind; value_type = t; name = name; parameters = ps.0 }) ((((tt, refl), refl), refl), refl)
    (λ all kept _. (kept, all))
    (λ m k. λ i. record { id = (k.0.0.0.1 i).id; kind = (k.0.0.0.1 i).kind; value_type = k.0.0.1 i; name = k.0.1 i; parameters = ps_of (k.1 i) }))))))

method_parses : {n : ℕ} (count : ℕ) → Parses n Always method (λ l m. MethodKeeps count l m) (λ m. MethodKept count m) (method_at count)
unfolding method method_at marks
method_parses count = part_parses marks method_head_parses (λ l m h k. tt) (λ h. said_parses {F = method_body h.kind} (λ m k. k) (λ m k. k)
    (λ m t k f. subst (λ (j : MethodKind). method_body j m t) (sym (ap kind_in k.1)) f)
    (λ m t k f. subst (λ (j : MethodKind). method_body j m t) (ap kind_in k.1) f) (λ m k _. k) (method_body_parses count h))
  where
    kind_in : MethodHead → MethodKind
    kind_in h = h.kind

method_heads : (test : Word → Bool) → ((w : Word) → passes (codes "[") w ≡ true → test w ≡ false)
    → (m : MethodValue) (text more : List Word) → method m text → heads test (text ++ more) ≡ false
unfolding method method_head
method_heads test is m text more f = then_heads test false text more (λ front left h. first_heads test (passes (codes "[")) false is front left h) f

method_some : (m : MethodValue) (text : List Word) → method m text → 0 < length text
unfolding method method_head
method_some m text f = omega (arith, this_some f.front f.first, ap length f.parts, length-append f.front f.back)

never_heads : {A : Type 0} (x : A) (words : List Word) → heads (nowhere x) words ≡ false
never_heads x [] = refl
never_heads x (w ∷ words) = refl

-- ---- the section

abbrev pub MethodsKeep : ℕ → TreeLimit → List MethodValue → Type 0
MethodsKeep n l ms = KeepsFrom {B = Unit {0}} one_more (λ k m. MethodKeeps k l m) NoEndLimit n ms tt

abbrev pub MethodsKept : ℕ → List MethodValue → Type 0
MethodsKept n ms = KeepsFrom {B = Unit {0}} one_more MethodKept NoEndLimit n ms tt

method_list_parses : {n : ℕ} (count : ℕ) → Parses n Always (λ p. listed (λ k. method) one_more nowhere closing count p.0 p.1)
    (λ l p. KeepsFrom one_more (λ n m. MethodKeeps n l m) NoEndLimit count p.0 p.1)
    (λ p. KeepsFrom one_more MethodKept NoEndLimit count p.0 p.1) (list_at (passes (codes "}")) nowhere method_at one_more closing_at count)
method_list_parses {n} count = list_parses one_more (passes (codes "}")) nowhere (λ n s. method_parses s) (λ n s. this_parses (passes (codes "}")))
    (λ s m text f. method_some m text f) (λ s m text more f. method_heads (passes (codes "}")) (λ w is. other_sign (codes "}") (codes "[") refl w is) m text
    more f)
    (λ s b text more f. this_heads (passes (codes "}")) text more f) (λ y s m text more f. never_heads y (text ++ more))
    (λ y s b text more f. never_heads y (text ++ more)) n count

abbrev ms_of : List MethodValue × Unit {0} → List MethodValue
ms_of p = p.0

section : ℕ → List MethodValue → List Word → Type 0
section n ms = symbol (codes "methods") ▸ symbol (codes ":") ▸ listed (λ k. method) one_more nowhere closing n ms tt

pub methods_parses : {n : ℕ} (count : ℕ) → Parses n Always (methods count) (λ l ms. MethodsKeep count l ms) (λ ms. MethodsKept count ms)
    (methods_at count)
unfolding methods_at section
methods_parses count = choose_parses {A = section count} {B = λ ms ws. (ms ≡ []) × symbol (codes "}") ws} (passes (codes "methods"))
    (λ ms text more _ f is. ⊎_elim (λ (k : section count ms text). k)
    (λ (k : where_is (ms ≡ []) (symbol (codes "}")) text). absurd (clash is (one_sign_heads (codes "methods") (codes "}") refl text more k.1))) f)
    (λ ms text more _ f is. ⊎_elim (λ (k : section count ms text). absurd (clash (same_heads (codes "methods") text more k) is))
    (λ (k : where_is (ms ≡ []) (symbol (codes "}")) text). k) f)
    (λ ms text _ f. inl f) (λ ms text _ f. inr f)
    (skip_parses (passes (codes "methods")) (skip_parses (passes (codes ":"))
    (end_part_parses (λ ms. both ms tt) ms_of (method_list_parses count) (λ l ms h k. k) (λ a. (tt, whole a)) (λ a kept. kept) (λ a ms h. ap ms_of h.1))))
    (fact_parses (end_parses (passes (codes "}")) [] (tt, refl) tt (λ ms h. h.1)))
  where
    whole : (a : List MethodValue × Unit {0}) → both (ms_of a) tt ≡ a
    whole a = refl

or_right : (b : Bool) → (b || true) ≡ true
or_right true = refl
or_right false = refl

pub methods_heads : (n : ℕ) (ms : List MethodValue) (text more : List Word) → methods n ms text
    → heads ends_properties (text ++ more) ≡ true
methods_heads n ms text more f = ⊎_elim
    (λ (k : (symbol (codes "methods") ▸ symbol (codes ":") ▸ listed (λ j. method) one_more nowhere closing n ms tt) text). first_heads ends_properties
    (passes (codes "methods")) true (λ w is. ap (λ (b : Bool). b || passes (codes "}") w) is) text more k)
    (λ (k : where_is (ms ≡ []) (symbol (codes "}")) text). ap (λ (ws : List Word). heads ends_properties (ws ++ more)) k.1.parts
    ∙ ap (λ (b : Bool). passes (codes "methods") k.1.word || b) k.1.is ∙ or_right (passes (codes "methods") k.1.word)) f

pub methods_begin : (n : ℕ) (ms : List MethodValue) (text more : List Word) → methods n ms text
    → heads (passes (codes "properties")) (text ++ more) ≡ false
methods_begin n ms text more f = ⊎_elim
    (λ (k : (symbol (codes "methods") ▸ symbol (codes ":") ▸ listed (λ j. method) one_more nowhere closing n ms tt) text). sign_heads (codes "properties")
    (codes "methods") refl text more k)
    (λ (k : where_is (ms ≡ []) (symbol (codes "}")) text). one_sign_heads (codes "properties") (codes "}") refl text more k.1) f

pub open_ends_nothing : (w : Word) → passes (codes "[") w ≡ true → ends_properties w ≡ false
open_ends_nothing w is = ap (λ (b : Bool). b || passes (codes "}") w) (other_sign (codes "methods") (codes "[") refl w is)
    ∙ other_sign (codes "}") (codes "[") refl w is
