-- The readings of parameters read them.
use Rattle.std.proofs.Common.{◌≡◌, ℕ, ◌<◌, Bool, true, false, List, [], ◌∷◌, ◌++◌, length, Some, None, refl, ap, ◌∙◌, arith}
use Rattle.std.specs.Prelude.{ℤ, pos, not, is_some, ◌&&◌, ◌==◌, codes}
use Rattle.std.proofs.Math.Logic.{⊎_elim, inl, inr}
use Rattle.std.proofs.lemmas.List.{length-append}
use Rattle.oa_model.specs.promise.Limits.{max_parameters}
use Rattle.oa_idl.specs.declared.stop.TreeLimit.{TreeLimit}
use Rattle.oa_idl.specs.declared.stop.TreeLimit.TheVariants as limits
use Rattle.oa_idl.specs.declared.parts.Literal.{Literal}
use Rattle.oa_idl.specs.declared.parts.Literal.TheVariants as literals
use Rattle.oa_idl.specs.declared.parts.MethodKind.{MethodKind}
use Rattle.oa_idl.specs.declared.parts.Parameter.{Parameter}
use Rattle.oa_idl.specs.declared.seen.ParameterSeen.{ParameterSeen}
use Rattle.oa_idl.specs.promise.Forms.{Word, Then, ◌▸◌, one, where_is, listed, nowhere}
use Rattle.oa_idl.specs.promise.Words.{passes, plain_type, is_text, name_of, amount_of, characters_of}
use Rattle.oa_idl.specs.Words.{over}
use Rattle.oa_idl.specs.Reading.{heads, done}
use Rattle.oa_idl.specs.promise.Grammar.{symbol, one_more, amount, literal, ParameterAttribute, parameter_attribute}
use Rattle.oa_idl.specs.promise.Grammar.{no_parameter, parameter_may, parameter_grow, parameter_finish, parameter_head}
use Rattle.oa_idl.specs.promise.Grammar.{head_of_parameter, typed, parameter, separated, next_parameter, may_end}
use Rattle.oa_idl.specs.promise.Grammar.{last_parameter}
use Rattle.oa_idl.specs.promise.Grammar.ParameterAttribute.{IsIn, IsOptional, HasDefault}
use Rattle.oa_idl.specs.GrammarReading.{amount_at, literal_at, default_at, parameter_attribute_at, parameter_full, parameter_head_at}
use Rattle.oa_idl.specs.GrammarReading.{typed_at, parameter_at, separated_at, parameters_at}
use Rattle.oa_idl.proofs.NameLimits.{over_named}
use Rattle.oa_idl.proofs.Parses.{Parses, Always, NoLimit}
use Rattle.oa_idl.proofs.PartParses.{fact_parses, part_parses, said_parses, skip_parses}
use Rattle.oa_idl.proofs.ChoiceParses.{clash}
use Rattle.oa_idl.proofs.FurtherParses.{require_parses}
use Rattle.oa_idl.proofs.Parses.{this_parses}
use Rattle.oa_idl.proofs.PartParses.{give_parses, one_parses}
use Rattle.oa_idl.proofs.ChoiceParses.{choose_parses, then_heads, this_heads}
use Rattle.oa_idl.proofs.FurtherParses.{sure_parses, end_parses}
use Rattle.oa_idl.proofs.Choices.{tagged_parses, free_branch_parses, first_heads}
use Rattle.oa_idl.proofs.Lists.{KeepsFrom, list_parses}
use Rattle.oa_idl.proofs.Heads.{other_sign, sign_heads, one_sign_heads, same_heads, one_heads, this_some}
use Rattle.oa_idl.proofs.Heads.{amount_no_sign, amount_no_text, characters_no_sign, characters_text, minus_no_text, true_no_text}
use Rattle.oa_idl.proofs.Heads.{false_no_text}
use Rattle.oa_idl.proofs.AttributeLists.{attributes_parses}
use Rattle.oa_idl.proofs.Texts.{full_left, full_middle, full_right, value_type_parses, value_type_heads, value_type_some}

-- ---- literals

amount_heads : (test : Word → Bool) → ((w : Word) → passes (codes "-") w ≡ true → test w ≡ false)
    → ((i : ℤ) (w : Word) → amount_of false w ≡ Some i → test w ≡ false) → (i : ℤ) (text more : List Word) → amount i text
    → heads test (text ++ more) ≡ false
amount_heads test minus number i text more f =
    ⊎_elim (λ (k : (symbol (codes "-") ▸ one (amount_of true) i) text). first_heads test (passes (codes "-")) false minus text more k)
    (λ (k : one (amount_of false) i text). one_heads (amount_of false) test i (λ w e. number i w e) text more k) f

amount_parses : {n : ℕ} → Parses n Always amount NoLimit Always amount_at
unfolding amount_at
amount_parses = choose_parses {A = λ i. symbol (codes "-") ▸ one (amount_of true) i} {B = one (amount_of false)} (passes (codes "-"))
    (λ i text more _ f is. ⊎_elim (λ (k : (symbol (codes "-") ▸ one (amount_of true) i) text). k)
    (λ (k : one (amount_of false) i text). absurd (clash is (plain_heads i text more k))) f)
    (λ i text more _ f is. ⊎_elim (λ (k : (symbol (codes "-") ▸ one (amount_of true) i) text). absurd (clash (same_heads (codes "-") text more k) is))
    (λ (k : one (amount_of false) i text). k) f)
    (λ i text _ f. inl f) (λ i text _ f. inr f)
    (skip_parses (passes (codes "-")) (sure_parses (amount_of true))) (sure_parses (amount_of false))
  where
    plain_heads : (i : ℤ) (text more : List Word) → one (amount_of false) i text → heads (passes (codes "-")) (text ++ more) ≡ false
    plain_heads i text more k = one_heads (amount_of false) (passes (codes "-")) i (λ w e. amount_no_sign (codes "-") refl false i w e) text more k

abbrev is_true : Literal → Bool
is_true (literals.Number i) = false
is_true (literals.Text cs) = false
is_true (literals.Bool b) = b

abbrev is_false : Literal → Bool
is_false (literals.Number i) = false
is_false (literals.Text cs) = false
is_false (literals.Bool b) = not b

abbrev is_characters : Literal → Bool
is_characters (literals.Number i) = false
is_characters (literals.Text cs) = true
is_characters (literals.Bool b) = false

abbrev characters_in : Literal → List ℕ
characters_in (literals.Number i) = []
characters_in (literals.Text cs) = cs
characters_in (literals.Bool b) = []

abbrev number_in : Literal → ℤ
number_in (literals.Number i) = i
number_in (literals.Text cs) = pos 0
number_in (literals.Bool b) = pos 0

true_heads : (v : Literal) (text more : List Word) → literal v text → heads (passes (codes "TRUE")) (text ++ more) ≡ is_true v
unfolding literal
true_heads (literals.Number i) text more f = amount_heads (passes (codes "TRUE")) (λ w is. other_sign (codes "TRUE") (codes "-") refl w is)
    (λ i w e. amount_no_sign (codes "TRUE") refl false i w e) i text more f
true_heads (literals.Text cs) text more f = one_heads characters_of (passes (codes "TRUE")) cs (λ w e. characters_no_sign (codes "TRUE") refl cs w e) text more
    f
true_heads (literals.Bool true) text more f = this_heads (passes (codes "TRUE")) text more f
true_heads (literals.Bool false) text more f = one_sign_heads (codes "TRUE") (codes "FALSE") refl text more f

false_heads : (v : Literal) (text more : List Word) → literal v text → heads (passes (codes "FALSE")) (text ++ more) ≡ is_false v
unfolding literal
false_heads (literals.Number i) text more f = amount_heads (passes (codes "FALSE")) (λ w is. other_sign (codes "FALSE") (codes "-") refl w is)
    (λ i w e. amount_no_sign (codes "FALSE") refl false i w e) i text more f
false_heads (literals.Text cs) text more f = one_heads characters_of (passes (codes "FALSE")) cs (λ w e. characters_no_sign (codes "FALSE") refl cs w e) text
    more f
false_heads (literals.Bool true) text more f = one_sign_heads (codes "FALSE") (codes "TRUE") refl text more f
false_heads (literals.Bool false) text more f = this_heads (passes (codes "FALSE")) text more f

characters_heads : (v : Literal) (text more : List Word) → literal v text → heads is_text (text ++ more) ≡ is_characters v
unfolding literal
characters_heads (literals.Number i) text more f = amount_heads is_text minus_no_text (λ i w e. amount_no_text false i w e) i text more f
characters_heads (literals.Text cs) text more f = ap (λ (ws : List Word). heads is_text (ws ++ more)) f.parts ∙ characters_text cs f.word f.is
characters_heads (literals.Bool true) text more f = ap (λ (ws : List Word). heads is_text (ws ++ more)) f.parts ∙ true_no_text f.word f.is
characters_heads (literals.Bool false) text more f = ap (λ (ws : List Word). heads is_text (ws ++ more)) f.parts ∙ false_no_text f.word f.is

only_true : (v : Literal) → Always v × (is_true v ≡ true) → v ≡ literals.Bool true
only_true (literals.Number i) h = absurd (clash h.1 refl)
only_true (literals.Text cs) h = absurd (clash h.1 refl)
only_true (literals.Bool true) h = refl
only_true (literals.Bool false) h = absurd (clash h.1 refl)

only_false : (v : Literal) → (Always v × (is_true v ≡ false)) × (is_false v ≡ true) → v ≡ literals.Bool false
only_false (literals.Number i) h = absurd (clash h.1 refl)
only_false (literals.Text cs) h = absurd (clash h.1 refl)
only_false (literals.Bool true) h = absurd (clash h.1 refl)
only_false (literals.Bool false) h = refl

only_characters : (v : Literal) → ((Always v × (is_true v ≡ false)) × (is_false v ≡ false)) × (is_characters v ≡ true)
    → v ≡ literals.Text (characters_in v)
only_characters (literals.Number i) h = absurd (clash h.1 refl)
only_characters (literals.Text cs) h = refl
only_characters (literals.Bool b) h = absurd (clash h.1 refl)

only_number : (v : Literal) → ((Always v × (is_true v ≡ false)) × (is_false v ≡ false)) × (is_characters v ≡ false)
    → v ≡ literals.Number (number_in v)
only_number (literals.Number i) h = refl
only_number (literals.Text cs) h = absurd (clash refl h.1)
only_number (literals.Bool true) h = absurd (clash refl h.0.0.1)
only_number (literals.Bool false) h = absurd (clash refl h.0.1)

pub literal_parses : {n : ℕ} → Parses n Always literal NoLimit Always literal_at
unfolding literal_at literal
literal_parses = tagged_parses {F = literal} (passes (codes "TRUE")) is_true true_heads
    (free_branch_parses {F = literal} (λ (_ : Unit {0}). literals.Bool true) (λ _. done) only_true (λ a. ((tt, refl), refl))
    (this_parses (passes (codes "TRUE"))))
    (tagged_parses {F = literal} (passes (codes "FALSE")) is_false false_heads
    (free_branch_parses {F = literal} (λ (_ : Unit {0}). literals.Bool false) (λ _. done) only_false (λ a. (((tt, refl), refl), refl))
    (this_parses (passes (codes "FALSE"))))
    (tagged_parses {F = literal} is_text is_characters characters_heads
    (free_branch_parses {F = literal} (λ cs. literals.Text cs) characters_in only_characters (λ a. ((((tt, refl), refl), refl), refl))
    (sure_parses characters_of))
    (free_branch_parses {F = literal} (λ i. literals.Number i) number_in only_number (λ a. ((((tt, refl), refl), refl), refl)) amount_parses)))

-- ---- attributes

default_parses : {n : ℕ}
    → Parses n Always (λ v. symbol (codes "defaultvalue") ▸ symbol (codes "(") ▸ literal v ▸ symbol (codes ")")) NoLimit Always default_at
unfolding default_at
default_parses =
    skip_parses (passes (codes "defaultvalue"))
    (skip_parses (passes (codes "(")) (part_parses (λ v. v) literal_parses (λ l v h k. tt)
    (λ v. end_parses (passes (codes ")")) v (tt, refl) (λ _. tt) (λ c h. h.1))))

abbrev is_in : ParameterAttribute → Bool
is_in IsIn = true
is_in IsOptional = false
is_in (HasDefault v) = false

abbrev is_optional : ParameterAttribute → Bool
is_optional IsIn = false
is_optional IsOptional = true
is_optional (HasDefault v) = false

abbrev default_in : ParameterAttribute → Literal
default_in IsIn = literals.Bool true
default_in IsOptional = literals.Bool true
default_in (HasDefault v) = v

in_heads : (x : ParameterAttribute) (text more : List Word) → parameter_attribute x text
    → heads (passes (codes "in")) (text ++ more) ≡ is_in x
in_heads IsIn text more f = this_heads (passes (codes "in")) text more f
in_heads IsOptional text more f = one_sign_heads (codes "in") (codes "optional") refl text more f
in_heads (HasDefault v) text more f = sign_heads (codes "in") (codes "defaultvalue") refl text more f

optional_heads : (x : ParameterAttribute) (text more : List Word) → parameter_attribute x text
    → heads (passes (codes "optional")) (text ++ more) ≡ is_optional x
optional_heads IsIn text more f = one_sign_heads (codes "optional") (codes "in") refl text more f
optional_heads IsOptional text more f = this_heads (passes (codes "optional")) text more f
optional_heads (HasDefault v) text more f = sign_heads (codes "optional") (codes "defaultvalue") refl text more f

only_in : (x : ParameterAttribute) → Always x × (is_in x ≡ true) → x ≡ IsIn
only_in IsIn h = refl
only_in IsOptional h = absurd (clash h.1 refl)
only_in (HasDefault v) h = absurd (clash h.1 refl)

only_optional : (x : ParameterAttribute) → (Always x × (is_in x ≡ false)) × (is_optional x ≡ true) → x ≡ IsOptional
only_optional IsIn h = absurd (clash h.1 refl)
only_optional IsOptional h = refl
only_optional (HasDefault v) h = absurd (clash h.1 refl)

only_default : (x : ParameterAttribute) → (Always x × (is_in x ≡ false)) × (is_optional x ≡ false) → x ≡ HasDefault (default_in x)
only_default IsIn h = absurd (clash refl h.0.1)
only_default IsOptional h = absurd (clash refl h.1)
only_default (HasDefault v) h = refl

parameter_attribute_parses : {n : ℕ} (s : ParameterSeen)
    → Parses n Always (λ x ws. (parameter_may s x ≡ true) × parameter_attribute x ws) NoLimit Always (parameter_attribute_at s)
unfolding parameter_attribute_at
parameter_attribute_parses s = tagged_parses {F = λ x ws. (parameter_may s x ≡ true) × parameter_attribute x ws} (passes (codes "in")) is_in
    (λ x text more f. in_heads x text more f.1)
    (free_branch_parses {F = λ x ws. (parameter_may s x ≡ true) × parameter_attribute x ws} (λ (_ : Unit {0}). IsIn) (λ _. done) only_in
    (λ a. ((tt, refl), refl)) (require_parses (not s.is_in) (this_parses (passes (codes "in")))))
    (tagged_parses {F = λ x ws. (parameter_may s x ≡ true) × parameter_attribute x ws} (passes (codes "optional")) is_optional
    (λ x text more f. optional_heads x text more f.1)
    (free_branch_parses {F = λ x ws. (parameter_may s x ≡ true) × parameter_attribute x ws} (λ (_ : Unit {0}). IsOptional) (λ _. done) only_optional
    (λ a. (((tt, refl), refl), refl)) (require_parses (not s.is_optional) (this_parses (passes (codes "optional")))))
    (free_branch_parses {F = λ x ws. (parameter_may s x ≡ true) × parameter_attribute x ws} (λ v. HasDefault v) default_in only_default
    (λ a. (((tt, refl), refl), refl)) (require_parses (not (is_some s.default)) default_parses)))

pub parameter_head_parses : {n : ℕ} → Parses n Always parameter_head NoLimit Always parameter_head_at
unfolding parameter_head parameter_head_at
parameter_head_parses {n} = attributes_parses parameter_grow parameter_full parameter_finish (λ n s. parameter_attribute_parses s) not_full n no_parameter
  where
    not_full : (s : ParameterSeen) (x : ParameterAttribute) → parameter_may s x ≡ true → not (parameter_full s) ≡ true
    not_full s IsIn e = full_left s.is_in (s.is_optional && is_some s.default) e
    not_full s IsOptional e = full_middle s.is_in s.is_optional (is_some s.default) e
    not_full s (HasDefault v) e = full_right s.is_in s.is_optional (is_some s.default) e

-- ---- parameters

-- a parameter is none too many, and its name is not too long
abbrev pub ParameterKeeps : ℕ → TreeLimit → Parameter → Type 0
ParameterKeeps n l p = over limits.Params max_parameters n p.name ≡ Some l → ⊥

abbrev pub ParameterKept : ℕ → Parameter → Type 0
ParameterKept n p = over limits.Params max_parameters n p.name ≡ None

typed_parses : {n : ℕ} (count : ℕ) (h : ParameterSeen)
    → Parses n (λ p. Always p × (head_of_parameter p ≡ h)) typed (λ l p. ParameterKeeps count l p) (λ p. ParameterKept count p)
    (typed_at count h)
unfolding typed_at
typed_parses count h = part_parses (λ p. p.value_type) value_type_parses (λ l p h k. tt)
    (λ t. part_parses (λ p. p.name) (one_parses name_of (over limits.Params max_parameters count)
    (over_named limits.Params max_parameters count (λ k. absurd cc))) (λ l p h k. k) (λ name.
    give_parses (record { is_in = h.is_in; is_optional = h.is_optional; default = h.default; value_type = t; name = name }) (((tt, refl), refl), refl)
    (λ kept _. kept)
    (λ p k. λ i. record {
      is_in = (k.0.0.1 i).is_in;
      is_optional = (k.0.0.1 i).is_optional;
      default = (k.0.0.1 i).default;
      value_type = k.0.1 i;
      name = k.1 i;
    })))

typed_open : (p : Parameter) (text more : List Word) → typed p text → heads (passes (codes "[")) (text ++ more) ≡ false
unfolding plain_type
typed_open p text more f =
    then_heads (passes (codes "[")) false text more (λ front left h. value_type_heads (codes "[") refl refl refl p.value_type front left h) f

-- how the attributes of a parameter begin
head_begins : (h : ParameterSeen) (test : Word → Bool) (v : Bool) → ((w : Word) → passes (codes "[") w ≡ true → test w ≡ v)
    → (text more : List Word) → parameter_head h text → heads test (text ++ more) ≡ v
unfolding parameter_head
head_begins h test v is text more f = first_heads test (passes (codes "[")) v is text more f

head_some : (h : ParameterSeen) (text : List Word) → parameter_head h text → 0 < length text
unfolding parameter_head
head_some h text f = this_some text f

parameter_parses : {n : ℕ} (count : ℕ) → Parses n Always parameter (λ l p. ParameterKeeps count l p) (λ p. ParameterKept count p)
    (parameter_at count)
unfolding parameter parameter_at
parameter_parses count = choose_parses {A = λ p. parameter_head (head_of_parameter p) ▸ typed p} {B = λ p ws. (head_of_parameter p ≡ no_parameter) × typed p ws}
    (passes (codes "["))
    (λ p text more _ f is. ⊎_elim (λ (k : (parameter_head (head_of_parameter p) ▸ typed p) text). k)
    (λ (k : where_is (head_of_parameter p ≡ no_parameter) (typed p) text). absurd (clash is (typed_open p text more k.1))) f)
    (λ p text more _ f is. ⊎_elim (λ (k : (parameter_head (head_of_parameter p) ▸ typed p) text). absurd (clash (opened (head_of_parameter p) text more k) is))
    (λ (k : where_is (head_of_parameter p ≡ no_parameter) (typed p) text). k) f)
    (λ p text _ f. inl f) (λ p text _ f. inr f)
    (part_parses head_of_parameter parameter_head_parses (λ l p h k. tt)
    (λ h. said_parses (λ c k. k) (λ c k. k) (λ c t k f. f) (λ c t k f. f) (λ c k _. k) (typed_parses count h)))
    (fact_parses (typed_parses count no_parameter))
  where
    opened : {G : List Word → Type 0} (h : ParameterSeen) (text more : List Word) → Then (parameter_head h) G text
        → heads (passes (codes "[")) (text ++ more) ≡ true
    opened h text more k = then_heads (passes (codes "[")) true text more (λ front left f. head_begins h (passes (codes "[")) true (λ w is. is) front left f) k

separated_heads : (b : Bool) (p : Parameter) (text more : List Word) → separated b p text
    → heads (passes (codes ")")) (text ++ more) ≡ false
unfolding parameter plain_type
separated_heads true p text more f = ⊎_elim
    (λ (k : (parameter_head (head_of_parameter p) ▸ typed p) text). then_heads (passes (codes ")")) false text more
    (λ front left h. head_begins (head_of_parameter p) (passes (codes ")")) false (λ w is. other_sign (codes ")") (codes "[") refl w is) front left h) k)
    (λ (k : where_is (head_of_parameter p ≡ no_parameter) (typed p) text). then_heads (passes (codes ")")) false text more
    (λ front left h. value_type_heads (codes ")") refl refl refl p.value_type front left h) k.1) f
separated_heads false p text more f = sign_heads (codes ")") (codes ",") refl text more f

separated_some : (b : Bool) (p : Parameter) (text : List Word) → separated b p text → 0 < length text
unfolding parameter
separated_some true p text f = ⊎_elim
    (λ (k : (parameter_head (head_of_parameter p) ▸ typed p) text). omega
    (arith, head_some (head_of_parameter p) k.front k.first, ap length k.parts, length-append k.front k.back))
    (λ (k : where_is (head_of_parameter p ≡ no_parameter) (typed p) text). omega
    (arith, value_type_some p.value_type k.1.front k.1.first, ap length k.1.parts, length-append k.1.front k.1.back)) f
separated_some false p text f = this_some text f

separated_parses : {n : ℕ} (count : ℕ) (b : Bool)
    → Parses n Always (separated b) (λ l p. ParameterKeeps count l p) (λ p. ParameterKept count p) (separated_at count b)
unfolding separated_at
separated_parses count true = parameter_parses count
separated_parses count false = skip_parses (passes (codes ",")) (parameter_parses count)

never_heads : {A : Type 0} (x : A) (words : List Word) → heads (nowhere x) words ≡ false
never_heads x [] = refl
never_heads x (w ∷ words) = refl

abbrev pub NoEndLimit : {S B : Type 0} → S → B → Type 0
NoEndLimit s b = Unit {0}

pub parameters_parses : {n : ℕ} (kind : MethodKind)
    → Parses n Always (λ p. listed next_parameter one_more nowhere (last_parameter kind) 0 p.0 p.1)
    (λ l p. KeepsFrom one_more (λ n x. ParameterKeeps n l x) NoEndLimit 0 p.0 p.1)
    (λ p. KeepsFrom one_more ParameterKept NoEndLimit 0 p.0 p.1) (parameters_at kind)
unfolding parameters_at
parameters_parses {n} kind = list_parses one_more (passes (codes ")")) nowhere (λ n s. separated_parses s (s == 0))
    (λ n s. require_parses (may_end kind s) (this_parses (passes (codes ")")))) (λ s p text f. separated_some (s == 0) p text f)
    (λ s p text more f. separated_heads (s == 0) p text more f)
    (λ s b text more f. this_heads (passes (codes ")")) text more f.1) (λ y s p text more f. never_heads y (text ++ more))
    (λ y s b text more f. never_heads y (text ++ more)) n 0
