-- The readings of attributes, types and properties read them.
use Rattle.std.proofs.Common.{◌≡◌, ℕ, ◌<◌, Bool, true, false, List, [], ◌++◌, length, Some, None, refl, ap, arith}
use Rattle.std.specs.Prelude.{ℤ, pos, not, is_some, ◌&&◌, codes}
use Rattle.std.proofs.Math.Logic.{⊎_elim, inl, inr}
use Rattle.oa_model.specs.declared.var_type.VarType.{VarType}
use Rattle.oa_model.specs.declared.var_type.ValueType.{ValueType}
use Rattle.oa_model.specs.declared.var_type.ValueType.TheVariants as values
use Rattle.std.specs.Str.{bytes_eq}
use Rattle.oa_model.specs.promise.Limits.{max_members}
use Rattle.oa_idl.specs.declared.stop.TreeLimit.TheVariants as limits
use Rattle.oa_idl.specs.declared.parts.Version.{Version}
use Rattle.oa_idl.specs.declared.parts.Property.{Property}
use Rattle.oa_idl.specs.declared.seen.HeadSeen.{HeadSeen}
use Rattle.oa_idl.specs.declared.seen.PropertySeen.{PropertySeen}
use Rattle.oa_idl.specs.declared.seen.PropertyHead.{PropertyHead}
use Rattle.oa_idl.specs.promise.Forms.{Word, ◌▸◌, one, either_of, where_is}
use Rattle.oa_idl.specs.promise.Words.{passes, plain_type, is_text, name_of, guid_of, part_of, id_of, word_type}
use Rattle.oa_idl.specs.Words.{over}
use Rattle.oa_idl.specs.Reading.{bind, give, heads, done}
use Rattle.oa_idl.specs.promise.Grammar.{symbol, help, HeadAttribute, head_attribute, no_head, head_may, head_grow}
use Rattle.oa_idl.specs.promise.Grammar.{head_finish, head, type_word, value_type, PropertyAttribute, id_form, numbered}
use Rattle.oa_idl.specs.promise.Grammar.{property_attribute, no_property, property_may, property_grow, property_finish}
use Rattle.oa_idl.specs.promise.Grammar.{property_head, property}
use Rattle.oa_idl.specs.promise.Grammar.HeadAttribute.{Guid, Numbered, HeadHelp}
use Rattle.oa_idl.specs.promise.Grammar.PropertyAttribute.{Id, Readonly, PropertyHelp}
use Rattle.oa_idl.specs.GrammarReading.{symbol_at, help_at, minor_at, uuid_at, version_at, head_attribute_at, head_full, head_at}
use Rattle.oa_idl.specs.GrammarReading.{type_word_at, value_type_at, signed_number_at, numbered_at, id_at, property_attribute_at, property_full}
use Rattle.oa_idl.specs.GrammarReading.{property_head_at, property_at}
use Rattle.oa_idl.proofs.NameLimits.{over_named}
use Rattle.oa_idl.proofs.Parses.{Parses, Always, NoLimit}
use Rattle.oa_idl.proofs.PartParses.{fact_parses, give_parses, part_parses, skip_parses}
use Rattle.oa_idl.proofs.ChoiceParses.{clash}
use Rattle.oa_idl.proofs.FurtherParses.{require_parses}
use Rattle.oa_idl.proofs.Parses.{this_parses}
use Rattle.oa_idl.proofs.PartParses.{one_parses}
use Rattle.oa_idl.proofs.ChoiceParses.{choose_parses, this_heads}
use Rattle.oa_idl.proofs.FurtherParses.{sure_parses, end_parses, end_part_parses}
use Rattle.oa_idl.proofs.Heads.{sign_heads, one_sign_heads, same_heads, one_heads, this_some, id_no_minus, type_no_sign}
use Rattle.oa_idl.proofs.AttributeLists.{attributes_parses}

pub help_parses : {n : ℕ} → Parses n Always (λ _. help) NoLimit Always help_at
unfolding help_at
help_parses = skip_parses (passes (codes "helpstring")) (skip_parses (passes (codes "(")) (skip_parses is_text (this_parses (passes (codes ")")))))

pub full_left : (a b : Bool) → not a ≡ true → not (a && b) ≡ true
full_left true b e = absurd cc
full_left false b e = refl

pub full_middle : (a b c : Bool) → not b ≡ true → not (a && (b && c)) ≡ true
full_middle true true c e = absurd cc
full_middle true false c e = refl
full_middle false b c e = refl

pub full_right : (a b c : Bool) → not c ≡ true → not (a && (b && c)) ≡ true
full_right a b true e = absurd cc
full_right true true false e = refl
full_right true false false e = refl
full_right false b false e = refl

-- ---- attributes of libraries and items

minor : Bool → ℕ → List Word → Type 0
minor counts m = either_of (symbol (codes ".") ▸ one (part_of counts) m ▸ symbol (codes ")")) (where_is (m ≡ 0) (symbol (codes ")")))

minor_parses : {n : ℕ} (counts : Bool) → Parses n Always (minor counts) NoLimit Always (minor_at counts)
unfolding minor_at minor
minor_parses counts = choose_parses {A = λ m. symbol (codes ".") ▸ one (part_of counts) m ▸ symbol (codes ")")} {B = λ m ws. (m ≡ 0) × symbol (codes ")") ws}
    (passes (codes "."))
    (λ m text more _ f is. ⊎_elim (λ (k : (symbol (codes ".") ▸ one (part_of counts) m ▸ symbol (codes ")")) text). k)
    (λ (k : where_is (m ≡ 0) (symbol (codes ")")) text). absurd (clash is (one_sign_heads (codes ".") (codes ")") refl text more k.1))) f)
    (λ m text more _ f is. ⊎_elim (λ (k : (symbol (codes ".") ▸ one (part_of counts) m ▸ symbol (codes ")")) text). absurd
    (clash (same_heads (codes ".") text more k) is)) (λ (k : where_is (m ≡ 0) (symbol (codes ")")) text). k) f)
    (λ m text _ f. inl f) (λ m text _ f. inr f)
    (skip_parses (passes (codes ".")) (part_parses (λ m. m) (sure_parses (part_of counts)) (λ l m h k. tt)
    (λ m. end_parses (passes (codes ")")) m (tt, refl) (λ _. tt) (λ c h. h.1))))
    (fact_parses (end_parses (passes (codes ")")) 0 (tt, refl) tt (λ c h. h.1)))

abbrev is_guid : HeadAttribute → Bool
is_guid (Guid g) = true
is_guid (Numbered v) = false
is_guid HeadHelp = false

abbrev is_numbered : HeadAttribute → Bool
is_numbered (Guid g) = false
is_numbered (Numbered v) = true
is_numbered HeadHelp = false

abbrev is_help : HeadAttribute → Bool
is_help (Guid g) = false
is_help (Numbered v) = false
is_help HeadHelp = true

abbrev guid_in : HeadAttribute → List ℕ
guid_in (Guid g) = g
guid_in (Numbered v) = []
guid_in HeadHelp = []

abbrev major_in : HeadAttribute → ℕ
major_in (Guid g) = 0
major_in (Numbered v) = v.major
major_in HeadHelp = 0

abbrev minor_in : HeadAttribute → ℕ
minor_in (Guid g) = 0
minor_in (Numbered v) = v.minor
minor_in HeadHelp = 0

version : ℕ → ℕ → Version
version a b = record { major = a; minor = b }

only_guid : (g : List ℕ) (x : HeadAttribute) → is_guid x ≡ true → guid_in x ≡ g → x ≡ Guid g
only_guid g (Guid h) is e = λ i. Guid (e i)
only_guid g (Numbered v) is e = absurd (clash is refl)
only_guid g HeadHelp is e = absurd (clash is refl)

only_numbered : (a b : ℕ) (x : HeadAttribute) → is_numbered x ≡ true → major_in x ≡ a → minor_in x ≡ b → x ≡ Numbered (version a b)
unfolding version
only_numbered a b (Guid g) is e f = absurd (clash is refl)
only_numbered a b (Numbered v) is e f = λ i. Numbered (record { major = e i; minor = f i })
only_numbered a b HeadHelp is e f = absurd (clash is refl)

only_help : (x : HeadAttribute) → is_help x ≡ true → x ≡ HeadHelp
only_help (Guid g) is = absurd (clash is refl)
only_help (Numbered v) is = absurd (clash is refl)
only_help HeadHelp is = refl

guid_form : HeadAttribute → List Word → Type 0
guid_form x = symbol (codes "uuid") ▸ symbol (codes "(") ▸ one guid_of (guid_in x) ▸ symbol (codes ")")

uuid_parses : {n : ℕ} → Parses n Always (λ x ws. (is_guid x ≡ true) × guid_form x ws) NoLimit Always uuid_at
unfolding uuid_at guid_form
uuid_parses =
    fact_parses (skip_parses (passes (codes "uuid")) (skip_parses (passes (codes "(")) (part_parses guid_in (sure_parses guid_of) (λ l x h k. tt) (λ g.
    end_parses (passes (codes ")")) (Guid g) ((tt, refl), refl) (λ _. tt) (λ x h. only_guid g x h.0.1 h.1)))))

version_form : Bool → HeadAttribute → List Word → Type 0
version_form counts x = symbol (codes "version") ▸ symbol (codes "(") ▸ one (part_of counts) (major_in x) ▸ minor counts (minor_in x)

version_parses : {n : ℕ} (counts : Bool)
    → Parses n Always (λ x ws. (is_numbered x ≡ true) × version_form counts x ws) NoLimit Always (version_at counts)
unfolding version_at version_form version
version_parses counts =
    fact_parses (skip_parses (passes (codes "version"))
    (skip_parses (passes (codes "(")) (part_parses major_in (sure_parses (part_of counts)) (λ l x h k. tt) (λ a.
    end_part_parses minor_in (λ b. Numbered (version a b)) (minor_parses counts) (λ l x h k. tt) (λ b. (((tt, refl), refl), refl)) (λ b _ _. tt)
    (λ b x h. only_numbered a b x h.0.0.1 h.0.1 h.1)))))

head_help_parses : {n : ℕ} → Parses n Always (λ x ws. (is_help x ≡ true) × help ws) NoLimit Always (bind help_at (λ _. give HeadHelp))
head_help_parses =
    fact_parses (end_part_parses (λ _. done) (λ _. HeadHelp) help_parses (λ l x h k. tt) (λ a. ((tt, refl), refl)) (λ a _. tt) (λ a x h. only_help x h.0.1))

head_attribute_parses : {n : ℕ} (counts : Bool) (s : HeadSeen)
    → Parses n Always (λ x ws. (head_may s x ≡ true) × head_attribute counts x ws) NoLimit Always (head_attribute_at counts s)
unfolding head_attribute_at guid_form version_form minor
head_attribute_parses counts s =
    choose_parses {A = λ x ws. (not s.uuid ≡ true) × ((is_guid x ≡ true) × guid_form x ws)}
    {B = λ x ws. (is_guid x ≡ false) × ((head_may s x ≡ true) × head_attribute counts x ws)} (passes (codes "uuid"))
    (λ x text more _ f is. yes x text more f is) (λ x text more _ f is. other x text more f is) (λ x text _ f. from_yes x text f) (λ x text _ f. f.1)
    (require_parses (not s.uuid) uuid_parses)
    (choose_parses {A = λ x ws. (not s.version ≡ true) × ((is_numbered x ≡ true) × version_form counts x ws)}
    {B = λ x ws. (not s.help ≡ true) × ((is_help x ≡ true) × help ws)} (passes (codes "version"))
    (λ x text more _ f is. yes2 x text more f is) (λ x text more _ f is. other2 x text more f is) (λ x text _ f. from_yes2 x text f)
    (λ x text _ f. from_other2 x text f)
    (require_parses (not s.version) (version_parses counts))
    (require_parses (not s.help) head_help_parses))
  where
    yes : (x : HeadAttribute) (text more : List Word) → (head_may s x ≡ true) × head_attribute counts x text
        → heads (passes (codes "uuid")) (text ++ more) ≡ true → (not s.uuid ≡ true) × ((is_guid x ≡ true) × guid_form x text)
    yes (Guid g) text more f is = (f.0, (refl, f.1))
    yes (Numbered v) text more f is = absurd (clash is (sign_heads (codes "uuid") (codes "version") refl text more f.1))
    yes HeadHelp text more f is = absurd (clash is (sign_heads (codes "uuid") (codes "helpstring") refl text more f.1))

    other : (x : HeadAttribute) (text more : List Word) → (head_may s x ≡ true) × head_attribute counts x text
        → heads (passes (codes "uuid")) (text ++ more) ≡ false
        → (is_guid x ≡ false) × ((head_may s x ≡ true) × head_attribute counts x text)
    other (Guid g) text more f is = absurd (clash (same_heads (codes "uuid") text more f.1) is)
    other (Numbered v) text more f is = (refl, f)
    other HeadHelp text more f is = (refl, f)

    from_yes : (x : HeadAttribute) (text : List Word) → (not s.uuid ≡ true) × ((is_guid x ≡ true) × guid_form x text)
        → (head_may s x ≡ true) × head_attribute counts x text
    from_yes (Guid g) text f = (f.0, f.1.1)
    from_yes (Numbered v) text f = absurd (clash f.1.0 refl)
    from_yes HeadHelp text f = absurd (clash f.1.0 refl)

    yes2 : (x : HeadAttribute) (text more : List Word) → (is_guid x ≡ false) × ((head_may s x ≡ true) × head_attribute counts x text)
        → heads (passes (codes "version")) (text ++ more) ≡ true
        → (not s.version ≡ true) × ((is_numbered x ≡ true) × version_form counts x text)
    yes2 (Guid g) text more f is = absurd (clash refl f.0)
    yes2 (Numbered v) text more f is = (f.1.0, (refl, f.1.1))
    yes2 HeadHelp text more f is = absurd (clash is (sign_heads (codes "version") (codes "helpstring") refl text more f.1.1))

    other2 : (x : HeadAttribute) (text more : List Word) → (is_guid x ≡ false) × ((head_may s x ≡ true) × head_attribute counts x text)
        → heads (passes (codes "version")) (text ++ more) ≡ false → (not s.help ≡ true) × ((is_help x ≡ true) × help text)
    other2 (Guid g) text more f is = absurd (clash refl f.0)
    other2 (Numbered v) text more f is = absurd (clash (same_heads (codes "version") text more f.1.1) is)
    other2 HeadHelp text more f is = (f.1.0, (refl, f.1.1))

    from_yes2 : (x : HeadAttribute) (text : List Word) → (not s.version ≡ true) × ((is_numbered x ≡ true) × version_form counts x text)
        → (is_guid x ≡ false) × ((head_may s x ≡ true) × head_attribute counts x text)
    from_yes2 (Guid g) text f = absurd (clash f.1.0 refl)
    from_yes2 (Numbered v) text f = (refl, (f.0, f.1.1))
    from_yes2 HeadHelp text f = absurd (clash f.1.0 refl)

    from_other2 : (x : HeadAttribute) (text : List Word) → (not s.help ≡ true) × ((is_help x ≡ true) × help text)
        → (is_guid x ≡ false) × ((head_may s x ≡ true) × head_attribute counts x text)
    from_other2 (Guid g) text f = absurd (clash f.1.0 refl)
    from_other2 (Numbered v) text f = absurd (clash f.1.0 refl)
    from_other2 HeadHelp text f = (refl, (f.0, f.1.1))

pub head_parses : {n : ℕ} (counts : Bool) → Parses n Always (head counts) NoLimit Always (head_at counts)
unfolding head head_at
head_parses {n} counts = attributes_parses head_grow head_full head_finish (λ n s. head_attribute_parses counts s) not_full n no_head
  where
    not_full : (s : HeadSeen) (x : HeadAttribute) → head_may s x ≡ true → not (head_full s) ≡ true
    not_full s (Guid g) e = full_left s.uuid (s.version && s.help) e
    not_full s (Numbered v) e = full_middle s.uuid s.version s.help e
    not_full s HeadHelp e = full_right s.uuid s.version s.help e

-- ---- types

type_word_parses : {n : ℕ} (in_array : Bool) → Parses n Always (type_word in_array) NoLimit Always (type_word_at in_array)
unfolding type_word_at plain_type
type_word_parses in_array = choose_parses {A = λ t. symbol (codes "unsigned") ▸ one (word_type in_array true) t} {B = one (word_type in_array false)}
    (passes (codes "unsigned"))
    (λ t text more _ f is. ⊎_elim (λ (k : (symbol (codes "unsigned") ▸ one (word_type in_array true) t) text). k)
    (λ (k : one (word_type in_array false) t text). absurd (clash is (plain_heads t text more k))) f)
    (λ t text more _ f is. ⊎_elim (λ (k : (symbol (codes "unsigned") ▸ one (word_type in_array true) t) text). absurd
    (clash (same_heads (codes "unsigned") text more k) is)) (λ (k : one (word_type in_array false) t text). k) f)
    (λ t text _ f. inl f) (λ t text _ f. inr f)
    (skip_parses (passes (codes "unsigned")) (sure_parses (word_type in_array true))) (sure_parses (word_type in_array false))
  where
    plain_heads : (t : VarType) (text more : List Word) → one (word_type in_array false) t text
        → heads (passes (codes "unsigned")) (text ++ more) ≡ false
    plain_heads t text more k = one_heads (word_type in_array false) (passes (codes "unsigned")) t (λ w e. type_no_sign (codes "unsigned") refl in_array t w e)
        text more k

abbrev is_array : ValueType → Bool
is_array (values.One t) = false
is_array (values.Array t) = true

abbrev cell_of : ValueType → VarType
cell_of (values.One t) = t
cell_of (values.Array t) = t

only_one : (t : VarType) (v : ValueType) → is_array v ≡ false → cell_of v ≡ t → v ≡ values.One t
only_one t (values.One u) is e = λ i. values.One (e i)
only_one t (values.Array u) is e = absurd (clash refl is)

only_array : (t : VarType) (v : ValueType) → is_array v ≡ true → cell_of v ≡ t → v ≡ values.Array t
only_array t (values.One u) is e = absurd (clash is refl)
only_array t (values.Array u) is e = λ i. values.Array (e i)

array_form : ValueType → List Word → Type 0
array_form v = symbol (codes "SAFEARRAY") ▸ symbol (codes "(") ▸ type_word true (cell_of v) ▸ symbol (codes ")")

pub value_type_parses : {n : ℕ} → Parses n Always value_type NoLimit Always value_type_at
unfolding value_type_at value_type array_form plain_type
value_type_parses = choose_parses {A = λ v ws. (is_array v ≡ true) × array_form v ws} {B = λ v ws. (is_array v ≡ false) × type_word false (cell_of v) ws}
    (passes (codes "SAFEARRAY"))
    (λ v text more _ f is. yes v text more f is) (λ v text more _ f is. other v text more f is) (λ v text _ f. from_yes v text f)
    (λ v text _ f. from_other v text f)
    (fact_parses (skip_parses (passes (codes "SAFEARRAY"))
    (skip_parses (passes (codes "(")) (part_parses cell_of (type_word_parses true) (λ l v h k. tt)
    (λ t. end_parses (passes (codes ")")) (values.Array t) ((tt, refl), refl) (λ _. tt) (λ v h. only_array t v h.0.1 h.1))))))
    (fact_parses (end_part_parses cell_of (λ t. values.One t) (type_word_parses false) (λ l v h k. tt) (λ t. ((tt, refl), refl)) (λ t _. tt)
    (λ t v h. only_one t v h.0.1 h.1)))
  where
    word_heads : (t : VarType) (text more : List Word) → type_word false t text → heads (passes (codes "SAFEARRAY")) (text ++ more) ≡ false
    word_heads t text more f =
        ⊎_elim (λ (k : (symbol (codes "unsigned") ▸ one (word_type false true) t) text). sign_heads (codes "SAFEARRAY") (codes "unsigned") refl text more k)
        (λ (k : one (word_type false false) t text). one_heads (word_type false false) (passes (codes "SAFEARRAY")) t
        (λ w e. type_no_sign (codes "SAFEARRAY") refl false t w e) text more k) f

    yes : (v : ValueType) (text more : List Word) → value_type v text → heads (passes (codes "SAFEARRAY")) (text ++ more) ≡ true
        → (is_array v ≡ true) × array_form v text
    yes (values.One t) text more f is = absurd (clash is (word_heads t text more f))
    yes (values.Array t) text more f is = (refl, f)

    other : (v : ValueType) (text more : List Word) → value_type v text → heads (passes (codes "SAFEARRAY")) (text ++ more) ≡ false
        → (is_array v ≡ false) × type_word false (cell_of v) text
    other (values.One t) text more f is = (refl, f)
    other (values.Array t) text more f is = absurd (clash (same_heads (codes "SAFEARRAY") text more f) is)

    from_yes : (v : ValueType) (text : List Word) → (is_array v ≡ true) × array_form v text → value_type v text
    from_yes (values.One t) text f = absurd (clash f.0 refl)
    from_yes (values.Array t) text f = f.1

    from_other : (v : ValueType) (text : List Word) → (is_array v ≡ false) × type_word false (cell_of v) text → value_type v text
    from_other (values.One t) text f = f.1
    from_other (values.Array t) text f = absurd (clash refl f.0)

-- a type begins with no other sign
type_word_heads : (a : List ℕ) → plain_type a ≡ None → bytes_eq (codes "unsigned") a ≡ false
    → (in_array : Bool) (t : VarType) (text more : List Word) → type_word in_array t text → heads (passes a) (text ++ more) ≡ false
type_word_heads a none ne in_array t text more f =
    ⊎_elim (λ (k : (symbol (codes "unsigned") ▸ one (word_type in_array true) t) text). sign_heads a (codes "unsigned") ne text more k)
    (λ (k : one (word_type in_array false) t text). one_heads (word_type in_array false) (passes a) t (λ w e. type_no_sign a none in_array t w e) text more k) f

pub value_type_heads : (a : List ℕ) → plain_type a ≡ None → bytes_eq (codes "unsigned") a ≡ false → bytes_eq (codes "SAFEARRAY") a ≡ false
    → (v : ValueType) (text more : List Word) → value_type v text → heads (passes a) (text ++ more) ≡ false
unfolding value_type
value_type_heads a none ne other (values.One t) text more f = type_word_heads a none ne false t text more f
value_type_heads a none ne other (values.Array t) text more f = sign_heads a (codes "SAFEARRAY") other text more f

type_word_some : (in_array : Bool) (t : VarType) (text : List Word) → type_word in_array t text → 0 < length text
type_word_some in_array t text f = ⊎_elim (λ (k : (symbol (codes "unsigned") ▸ one (word_type in_array true) t) text). this_some text k)
    (λ (k : one (word_type in_array false) t text). omega (arith, ap length k.parts)) f

pub value_type_some : (v : ValueType) (text : List Word) → value_type v text → 0 < length text
unfolding value_type
value_type_some (values.One t) text f = type_word_some false t text f
value_type_some (values.Array t) text f = this_some text f

-- ---- properties

pub signed_parses : {n : ℕ} → Parses n Always id_form NoLimit Always signed_number_at
unfolding signed_number_at
signed_parses = choose_parses {A = λ i. symbol (codes "-") ▸ one (id_of true) i} {B = one (id_of false)} (passes (codes "-"))
    (λ i text more _ f is. ⊎_elim (λ (k : (symbol (codes "-") ▸ one (id_of true) i) text). k)
    (λ (k : one (id_of false) i text). absurd (clash is (plain_heads i text more k))) f)
    (λ i text more _ f is. ⊎_elim (λ (k : (symbol (codes "-") ▸ one (id_of true) i) text). absurd (clash (same_heads (codes "-") text more k) is))
    (λ (k : one (id_of false) i text). k) f)
    (λ i text _ f. inl f) (λ i text _ f. inr f)
    (skip_parses (passes (codes "-")) (sure_parses (id_of true))) (sure_parses (id_of false))
  where
    plain_heads : (i : ℤ) (text more : List Word) → one (id_of false) i text → heads (passes (codes "-")) (text ++ more) ≡ false
    plain_heads i text more k = one_heads (id_of false) (passes (codes "-")) i (λ w e. id_no_minus false i w e) text more k

abbrev is_id : PropertyAttribute → Bool
is_id (Id i) = true
is_id Readonly = false
is_id PropertyHelp = false

abbrev is_readonly : PropertyAttribute → Bool
is_readonly (Id i) = false
is_readonly Readonly = true
is_readonly PropertyHelp = false

abbrev is_property_help : PropertyAttribute → Bool
is_property_help (Id i) = false
is_property_help Readonly = false
is_property_help PropertyHelp = true

abbrev id_in : PropertyAttribute → ℤ
id_in (Id i) = i
id_in Readonly = pos 0
id_in PropertyHelp = pos 0

only_id : (i : ℤ) (x : PropertyAttribute) → is_id x ≡ true → id_in x ≡ i → x ≡ Id i
only_id i (Id j) is e = λ k. Id (e k)
only_id i Readonly is e = absurd (clash is refl)
only_id i PropertyHelp is e = absurd (clash is refl)

only_readonly : (x : PropertyAttribute) → is_readonly x ≡ true → x ≡ Readonly
only_readonly (Id j) is = absurd (clash is refl)
only_readonly Readonly is = refl
only_readonly PropertyHelp is = absurd (clash is refl)

only_property_help : (x : PropertyAttribute) → is_property_help x ≡ true → x ≡ PropertyHelp
only_property_help (Id j) is = absurd (clash is refl)
only_property_help Readonly is = absurd (clash is refl)
only_property_help PropertyHelp is = refl

pub numbered_parses : {n : ℕ} → Parses n Always numbered NoLimit Always numbered_at
unfolding numbered_at
numbered_parses =
    skip_parses (passes (codes "id")) (skip_parses (passes (codes "("))
    (part_parses (λ i. i) signed_parses (λ l i h k. tt) (λ i. end_parses (passes (codes ")")) i (tt, refl) (λ _. tt) (λ c h. h.1))))

id_parses : {n : ℕ} → Parses n Always (λ x ws. (is_id x ≡ true) × numbered (id_in x) ws) NoLimit Always id_at
unfolding id_at
id_parses = fact_parses (end_part_parses id_in Id numbered_parses (λ l x h k. tt) (λ i. ((tt, refl), refl)) (λ i _. tt) (λ i x h. only_id i x h.0.1 h.1))

readonly_parses : {n : ℕ} → Parses n Always (λ x ws. (is_readonly x ≡ true)
    × symbol (codes "readonly") ws) NoLimit Always (bind (symbol_at (codes "readonly")) (λ _. give Readonly))
readonly_parses = fact_parses (end_parses (passes (codes "readonly")) Readonly (tt, refl) tt (λ x h. only_readonly x h.1))

property_help_parses : {n : ℕ} → Parses n Always (λ x ws. (is_property_help x ≡ true)
    × help ws) NoLimit Always (bind help_at (λ _. give PropertyHelp))
property_help_parses =
    fact_parses (end_part_parses (λ _. done) (λ _. PropertyHelp) help_parses (λ l x h k. tt) (λ a. ((tt, refl), refl)) (λ a _. tt)
    (λ a x h. only_property_help x h.0.1))

property_attribute_parses : {n : ℕ} (s : PropertySeen)
    → Parses n Always (λ x ws. (property_may s x ≡ true) × property_attribute x ws) NoLimit Always (property_attribute_at s)
unfolding property_attribute_at
property_attribute_parses s = choose_parses {A = λ x ws. (not (is_some s.id) ≡ true) × ((is_id x ≡ true) × numbered (id_in x) ws)}
    {B = λ x ws. (is_id x ≡ false) × ((property_may s x ≡ true) × property_attribute x ws)} (passes (codes "id"))
    (λ x text more _ f is. yes x text more f is) (λ x text more _ f is. other x text more f is) (λ x text _ f. from_yes x text f) (λ x text _ f. f.1)
    (require_parses (not (is_some s.id)) id_parses)
    (choose_parses {A = λ x ws. (not s.readonly ≡ true) × ((is_readonly x ≡ true) × symbol (codes "readonly") ws)}
    {B = λ x ws. (not s.help ≡ true) × ((is_property_help x ≡ true) × help ws)} (passes (codes "readonly"))
    (λ x text more _ f is. yes2 x text more f is) (λ x text more _ f is. other2 x text more f is) (λ x text _ f. from_yes2 x text f)
    (λ x text _ f. from_other2 x text f)
    (require_parses (not s.readonly) readonly_parses)
    (require_parses (not s.help) property_help_parses))
  where
    yes : (x : PropertyAttribute) (text more : List Word) → (property_may s x ≡ true) × property_attribute x text
        → heads (passes (codes "id")) (text ++ more) ≡ true → (not (is_some s.id) ≡ true) × ((is_id x ≡ true) × numbered (id_in x) text)
    yes (Id i) text more f is = (f.0, (refl, f.1))
    yes Readonly text more f is = absurd (clash is (one_sign_heads (codes "id") (codes "readonly") refl text more f.1))
    yes PropertyHelp text more f is = absurd (clash is (sign_heads (codes "id") (codes "helpstring") refl text more f.1))

    other : (x : PropertyAttribute) (text more : List Word) → (property_may s x ≡ true) × property_attribute x text
        → heads (passes (codes "id")) (text ++ more) ≡ false → (is_id x ≡ false) × ((property_may s x ≡ true) × property_attribute x text)
    other (Id i) text more f is = absurd (clash (same_heads (codes "id") text more f.1) is)
    other Readonly text more f is = (refl, f)
    other PropertyHelp text more f is = (refl, f)

    from_yes : (x : PropertyAttribute) (text : List Word) → (not (is_some s.id) ≡ true) × ((is_id x ≡ true) × numbered (id_in x) text)
        → (property_may s x ≡ true) × property_attribute x text
    from_yes (Id i) text f = (f.0, f.1.1)
    from_yes Readonly text f = absurd (clash f.1.0 refl)
    from_yes PropertyHelp text f = absurd (clash f.1.0 refl)

    yes2 : (x : PropertyAttribute) (text more : List Word) → (is_id x ≡ false) × ((property_may s x ≡ true) × property_attribute x text)
        → heads (passes (codes "readonly")) (text ++ more) ≡ true
        → (not s.readonly ≡ true) × ((is_readonly x ≡ true) × symbol (codes "readonly") text)
    yes2 (Id i) text more f is = absurd (clash refl f.0)
    yes2 Readonly text more f is = (f.1.0, (refl, f.1.1))
    yes2 PropertyHelp text more f is = absurd (clash is (sign_heads (codes "readonly") (codes "helpstring") refl text more f.1.1))

    other2 : (x : PropertyAttribute) (text more : List Word) → (is_id x ≡ false) × ((property_may s x ≡ true) × property_attribute x text)
        → heads (passes (codes "readonly")) (text ++ more) ≡ false → (not s.help ≡ true) × ((is_property_help x ≡ true) × help text)
    other2 (Id i) text more f is = absurd (clash refl f.0)
    other2 Readonly text more f is = absurd (clash (this_heads (passes (codes "readonly")) text more f.1.1) is)
    other2 PropertyHelp text more f is = (f.1.0, (refl, f.1.1))

    from_yes2 : (x : PropertyAttribute) (text : List Word)
        → (not s.readonly ≡ true) × ((is_readonly x ≡ true) × symbol (codes "readonly") text)
        → (is_id x ≡ false) × ((property_may s x ≡ true) × property_attribute x text)
    from_yes2 (Id i) text f = absurd (clash f.1.0 refl)
    from_yes2 Readonly text f = (refl, (f.0, f.1.1))
    from_yes2 PropertyHelp text f = absurd (clash f.1.0 refl)

    from_other2 : (x : PropertyAttribute) (text : List Word) → (not s.help ≡ true) × ((is_property_help x ≡ true) × help text)
        → (is_id x ≡ false) × ((property_may s x ≡ true) × property_attribute x text)
    from_other2 (Id i) text f = absurd (clash f.1.0 refl)
    from_other2 Readonly text f = absurd (clash f.1.0 refl)
    from_other2 PropertyHelp text f = (refl, (f.0, f.1.1))

property_head_parses : {n : ℕ} → Parses n Always property_head NoLimit Always property_head_at
unfolding property_head property_head_at
property_head_parses {n} = attributes_parses property_grow property_full property_finish (λ n s. property_attribute_parses s) not_full n no_property
  where
    not_full : (s : PropertySeen) (x : PropertyAttribute) → property_may s x ≡ true → not (property_full s) ≡ true
    not_full s (Id i) e = full_left (is_some s.id) (s.readonly && s.help) e
    not_full s Readonly e = full_middle (is_some s.id) s.readonly s.help e
    not_full s PropertyHelp e = full_right (is_some s.id) s.readonly s.help e

property_with : ℤ → Bool → ValueType → List ℕ → Property
property_with id readonly t name = record { id = id; readonly = readonly; value_type = t; name = name }

marks : Property → PropertyHead
marks p = record { id = p.id; readonly = p.readonly }

pub property_parses : {n : ℕ} (count : ℕ) → Parses n Always property (λ l p. over limits.Members max_members count p.name ≡ Some l → ⊥)
    (λ p. over limits.Members max_members count p.name ≡ None) (property_at count)
unfolding property_at property_with marks
property_parses count = part_parses marks property_head_parses (λ l p h k. tt) (λ h. part_parses (λ p. p.value_type) value_type_parses (λ l p h k. tt) (λ t.
    part_parses (λ p. p.name) (one_parses name_of (over limits.Members max_members count) (over_named limits.Members max_members count (λ k. absurd cc)))
    (λ l p h k. k) (λ name. skip_parses (passes (codes ";"))
    (give_parses (property_with h.id h.readonly t name) (((tt, refl), refl), refl) (λ kept _ _. kept)
    (λ p k. λ i. record { id = (k.0.0.1 i).id; readonly = (k.0.0.1 i).readonly; value_type = k.0.1 i; name = k.1 i })))))
