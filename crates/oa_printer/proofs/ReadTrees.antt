-- The tree of a text can be printed so that it is parsed again.
use Rattle.std.proofs.Common.{◌≡◌, ℕ, ◌+◌, ◌<◌, Bool, true, false, List, [], ◌∷◌, ◌++◌, length, Option, Some, None, refl, sym, subst, arith}
use Rattle.std.specs.Prelude.{ℤ, ◌==◌, if◌then◌else◌, codes}
use Rattle.std.specs.List.{AllByRecursion}
use Rattle.std.proofs.Math.Logic.{⊎_elim}
use Rattle.std.proofs.lemmas.List.Elements.{All-replicate}
use Rattle.uuid.specs.Parts.{zero_bytes}
use Rattle.oa_model.specs.declared.var_type.VarType.{VarType}
use Rattle.oa_model.specs.declared.var_type.ValueType.{ValueType}
use Rattle.oa_model.specs.declared.var_type.ValueType.TheVariants as values
use Rattle.oa_idl.specs.declared.stop.TreeLimit.TheVariants as limits
use Rattle.oa_idl.specs.declared.parts.Version.{Version}
use Rattle.oa_idl.specs.declared.parts.Property.{Property}
use Rattle.oa_idl.specs.declared.parts.Entry.{Entry}
use Rattle.oa_idl.specs.declared.parts.Literal.{Literal}
use Rattle.oa_idl.specs.declared.parts.Literal.TheVariants as literals
use Rattle.oa_idl.specs.declared.parts.MethodKind.{MethodKind}
use Rattle.oa_idl.specs.declared.parts.Parameter.{Parameter}
use Rattle.oa_idl.specs.declared.items.Item.{Item}
use Rattle.oa_idl.specs.declared.items.Item.TheVariants as items
use Rattle.oa_idl.specs.declared.seen.HeadValues.{HeadValues}
use Rattle.oa_idl.specs.declared.seen.HeadSeen.{HeadSeen}
use Rattle.oa_idl.specs.declared.seen.PropertySeen.{PropertySeen}
use Rattle.oa_idl.specs.declared.seen.PropertyHead.{PropertyHead}
use Rattle.oa_idl.specs.declared.seen.MethodSeen.{MethodSeen}
use Rattle.oa_idl.specs.declared.seen.MethodHead.{MethodHead}
use Rattle.oa_idl.specs.declared.seen.ParameterSeen.{ParameterSeen}
use Rattle.oa_idl.specs.declared.seen.EntriesSeen.{EntriesSeen}
use Rattle.oa_idl.specs.declared.seen.ItemsSeen.{ItemsSeen}
use Rattle.oa_idl.specs.promise.MethodValues.{MethodValue}
use Rattle.oa_idl.specs.promise.Trees.{TreeValue}
use Rattle.oa_idl.specs.promise.Forms.{Word, Then, ◌▸◌, one, where_is, listed, nowhere}
use Rattle.oa_idl.specs.promise.Words.{part_of, id_of, amount_of, word_type, words_of}
use Rattle.oa_idl.specs.promise.Grammar.{symbol, next_attribute, last_attribute, attributes, HeadAttribute}
use Rattle.oa_idl.specs.promise.Grammar.{head_attribute, no_head, head_may, head_grow, head_finish, head, type_word}
use Rattle.oa_idl.specs.promise.Grammar.{value_type, PropertyAttribute, property_attribute, id_form, no_property}
use Rattle.oa_idl.specs.promise.Grammar.{property_may, property_grow, property_head_of, property_finish, property_head}
use Rattle.oa_idl.specs.promise.Grammar.{property, one_more, closing, literal, ParameterAttribute, parameter_attribute}
use Rattle.oa_idl.specs.promise.Grammar.{no_parameter, parameter_may, parameter_grow, parameter_finish, parameter_head}
use Rattle.oa_idl.specs.promise.Grammar.{head_of_parameter, typed, parameter, MethodAttribute, method_attribute}
use Rattle.oa_idl.specs.promise.Grammar.{no_method, method_may, method_grow, method_head_of, method_finish, method_head}
use Rattle.oa_idl.specs.promise.Grammar.{result_type, separated, next_parameter, may_end, last_parameter, method}
use Rattle.oa_idl.specs.promise.Grammar.{methods, members, named, entry_by, no_entry, entry_grow, entry, last_entry}
use Rattle.oa_idl.specs.promise.Grammar.{guid_of_item, item_body, item, LibraryContent, element, semicolon_after}
use Rattle.oa_idl.specs.promise.Grammar.{no_items, elements_grow, items_in, library_contents}
use Rattle.oa_idl.specs.promise.Grammar.HeadAttribute.{Guid, Numbered, HeadHelp}
use Rattle.oa_idl.specs.promise.Grammar.PropertyAttribute.{Id, Readonly, PropertyHelp}
use Rattle.oa_idl.specs.promise.Grammar.ParameterAttribute.{IsIn, IsOptional, HasDefault}
use Rattle.oa_idl.specs.promise.Grammar.MethodAttribute.{MethodId, Propget, Propput, MethodHelp}
use Rattle.oa_idl.specs.promise.Grammar.LibraryContent.{Import, OfItem}
use Rattle.oa_idl.specs.promise.IsTree.{IsTree}
use Rattle.oa_printer.specs.Printable.{IsGuid, IsVersion, IsName, IsId, IsType, IsValueType, IsLiteral, IsDefault, IsPrintableParameter, IsProperty}
use Rattle.oa_printer.specs.Printable.{IsResult, IsMethod, AreEntries, IsItem, IsPrintable}
use Rattle.oa_printer.proofs.ReadParts.{Fine, some_is, no_some, words_fine, name_read, id_read, amount_read, part_read, guid_read, type_read}
use Rattle.oa_printer.proofs.ReadParts.{characters_read}

abbrev AllFine : List Word → Type 0
AllFine ws = AllByRecursion Fine ws

front_fine : (a b : List Word) → AllFine (a ++ b) → AllFine a
front_fine [] b h = tt
front_fine (w ∷ a) b h = (h.0, front_fine a b h.1)

back_fine : (a b : List Word) → AllFine (a ++ b) → AllFine b
back_fine [] b h = h
back_fine (w ∷ a) b h = back_fine a b h.1

-- of the first stretch, and of the second
first_fine : {F G : List Word → Type 0} (ws : List Word) (f : Then F G ws) → AllFine ws → AllFine f.front
first_fine ws f h = front_fine f.front f.back (subst AllFine f.parts h)

second_fine : {F G : List Word → Type 0} (ws : List Word) (f : Then F G ws) → AllFine ws → AllFine f.back
second_fine ws f h = back_fine f.front f.back (subst AllFine f.parts h)

-- ---- attributes

gathered_read : {S A B : Type 0} (attribute : A → List Word → Type 0) (may_come : S → A → Bool) (grow : S → A → S) (finish : S → Option B)
    (P : S → Type 0) (Q : B → Type 0) (b : B)
    → ((s : S) (x : A) (ws : List Word) → P s → attribute x ws → P (grow s x)) → ((s : S) → P s → finish s ≡ Some b → Q b)
    → (s : S) (xs : List A) (ws : List Word) → P s
    → listed (next_attribute attribute may_come) grow nowhere (last_attribute finish) s xs b ws → Q b
gathered_read attribute may_come grow finish P Q b step end s [] ws h f = end s h f.0
gathered_read attribute may_come grow finish P Q b step end s (x ∷ xs) ws h f = gathered_read attribute may_come grow finish P Q b step end
    (grow s x) xs f.second.back (step s x f.first.1.back h f.first.1.second) f.second.second

attributes_read : {S A B : Type 0} (attribute : A → List Word → Type 0) (may_come : S → A → Bool) (grow : S → A → S)
    (finish : S → Option B) (P : S → Type 0) (Q : B → Type 0) (b : B)
    → ((s : S) (x : A) (ws : List Word) → P s → attribute x ws → P (grow s x)) → ((s : S) → P s → finish s ≡ Some b → Q b)
    → (s : S) (ws : List Word) → P s → attributes attribute may_come grow finish s b ws → Q b
attributes_read attribute may_come grow finish P Q b step end s ws h f =
    let x = f.second.value in
    let g = f.second.form in
    gathered_read attribute may_come grow finish P Q b step end (grow s x) g.second.all g.back (step s x g.front h g.first.1) g.second.form

-- ---- the attributes of a library and of an item

abbrev VersionIf : Bool → Version → Type 0
VersionIf true v = IsVersion v
VersionIf false v = Unit {0}

abbrev HeadIf : Bool → HeadValues → Type 0
HeadIf counts h = IsGuid h.guid × VersionIf counts h.version

zeros_are : IsGuid zero_bytes
zeros_are = (refl, All-replicate (λ b. b < 256) 16 0 (omega arith))

no_version : (counts : Bool) → VersionIf counts (record { major = 0; minor = 0 })
no_version true = (omega arith, omega arith)
no_version false = tt

version_read : (counts : Bool) (v : Version) (ws : List Word) → head_attribute counts (Numbered v) ws → VersionIf counts v
version_read true v ws f =
    let g = f.second.second in (
      part_read v.major g.first.word g.first.is,
      ⊎_elim (λ (k : (symbol (codes ".") ▸ one (part_of true) v.minor ▸ symbol (codes ")")) g.back). part_read v.minor k.second.first.word k.second.first.is)
          (λ (k : where_is (v.minor ≡ 0) (symbol (codes ")")) g.back). subst (λ (n : ℕ). n < 65536) (sym k.0) (omega arith)) g.second,
    )
version_read false v ws f = tt

head_step : (counts : Bool) (s : HeadSeen) (x : HeadAttribute) (ws : List Word) → HeadIf counts s.head → head_attribute counts x ws
    → HeadIf counts (head_grow s x).head
head_step counts s (Guid g) ws h f = (guid_read g f.second.second.first.word f.second.second.first.is, h.1)
head_step counts s (Numbered v) ws h f = (h.0, version_read counts v ws f)
head_step counts s HeadHelp ws h f = h

head_end : (counts : Bool) (b : HeadValues) (uuid : Bool) (h : HeadValues) → HeadIf counts h → (if uuid then Some h else None) ≡ Some b
    → HeadIf counts b
head_end counts b true h k e = subst (HeadIf counts) (some_is h b e) k
head_end counts b false h k e = no_some b e

pub head_read : (counts : Bool) (b : HeadValues) (ws : List Word) → head counts b ws → HeadIf counts b
unfolding head
head_read counts b ws f = attributes_read (head_attribute counts) head_may head_grow head_finish (λ (s : HeadSeen). HeadIf counts s.head) (HeadIf counts) b
    (head_step counts) (λ s h e. head_end counts b s.uuid s.head h e) no_head ws (zeros_are, no_version counts) f

-- ---- types and numbers

type_word_read : (in_array : Bool) (t : VarType) (ws : List Word) → type_word in_array t ws → IsType in_array t
type_word_read in_array t ws f =
    ⊎_elim (λ (k : (symbol (codes "unsigned") ▸ one (word_type in_array true) t) ws). type_read in_array true t k.second.word k.second.is)
    (λ (k : one (word_type in_array false) t ws). type_read in_array false t k.word k.is) f

value_type_read : (t : ValueType) (ws : List Word) → value_type t ws → IsValueType t
unfolding value_type
value_type_read (values.One t) ws f = type_word_read false t ws f
value_type_read (values.Array t) ws f = type_word_read true t f.second.second.front f.second.second.first

id_form_read : (i : ℤ) (ws : List Word) → id_form i ws → IsId i
id_form_read i ws f = ⊎_elim (λ (k : (symbol (codes "-") ▸ one (id_of true) i) ws). id_read true i k.second.word k.second.is)
    (λ (k : one (id_of false) i ws). id_read false i k.word k.is) f

literal_read : (v : Literal) (ws : List Word) → literal v ws → IsLiteral v
unfolding literal
literal_read (literals.Number i) ws f = ⊎_elim (λ (k : (symbol (codes "-") ▸ one (amount_of true) i) ws). amount_read true i k.second.word k.second.is)
    (λ (k : one (amount_of false) i ws). amount_read false i k.word k.is) f
literal_read (literals.Text cs) ws f = characters_read cs f.word f.is
literal_read (literals.Bool b) ws f = tt

-- ---- properties

abbrev IdIf : Option ℤ → Type 0
IdIf None = Unit {0}
IdIf (Some i) = IsId i

property_step : (s : PropertySeen) (x : PropertyAttribute) (ws : List Word) → IdIf s.id → property_attribute x ws
    → IdIf (property_grow s x).id
property_step s (Id i) ws h f = id_form_read i f.second.second.front f.second.second.first
property_step s Readonly ws h f = h
property_step s PropertyHelp ws h f = h

property_end : (b : PropertyHead) (o : Option ℤ) (readonly : Bool) → IdIf o → property_head_of o readonly ≡ Some b → IsId b.id
property_end b None readonly h e = no_some b e
property_end b (Some i) readonly h e = subst (λ (p : PropertyHead). IsId p.id) (some_is (record { id = i; readonly = readonly }) b e) h

property_head_read : (b : PropertyHead) (ws : List Word) → property_head b ws → IsId b.id
unfolding property_head
property_head_read b ws f = attributes_read property_attribute property_may property_grow property_finish (λ (s : PropertySeen). IdIf s.id)
    (λ (p : PropertyHead). IsId p.id) b property_step (λ s h e. property_end b s.id s.readonly h e) no_property ws tt f

property_read : (p : Property) (ws : List Word) → property p ws → AllFine ws → IsProperty p
property_read p ws f h =
    let rest = second_fine ws f h in
    let name = second_fine f.back f.second rest in (
      property_head_read (record { id = p.id; readonly = p.readonly }) f.front f.first,
      value_type_read p.value_type f.second.front f.second.first,
      name_read p.name f.second.second.front f.second.second.first (first_fine f.second.back f.second.second name),
    )

-- ---- parameters

parameter_step : (s : ParameterSeen) (x : ParameterAttribute) (ws : List Word) → IsDefault s.default → parameter_attribute x ws
    → IsDefault (parameter_grow s x).default
parameter_step s IsIn ws h f = h
parameter_step s IsOptional ws h f = h
parameter_step s (HasDefault v) ws h f = literal_read v f.second.second.front f.second.second.first

parameter_head_read : (b : ParameterSeen) (ws : List Word) → parameter_head b ws → IsDefault b.default
unfolding parameter_head
parameter_head_read b ws f = attributes_read parameter_attribute parameter_may parameter_grow parameter_finish (λ (s : ParameterSeen). IsDefault s.default)
    (λ (s : ParameterSeen). IsDefault s.default) b parameter_step (λ s h e. subst (λ (p : ParameterSeen). IsDefault p.default) (some_is s b e) h) no_parameter
    ws tt f

typed_read : (p : Parameter) (ws : List Word) → typed p ws → AllFine ws → IsValueType p.value_type × IsName p.name
typed_read p ws f h =
    (value_type_read p.value_type f.front f.first, name_read p.name f.second.front f.second.first (first_fine f.back f.second (second_fine ws f h)))

parameter_read : (p : Parameter) (ws : List Word) → parameter p ws → AllFine ws → IsPrintableParameter p
unfolding parameter
parameter_read p ws f h = ⊎_elim
    (λ (k : (parameter_head (head_of_parameter p) ▸ typed p) ws). let t = typed_read p k.back k.second (second_fine ws k h) in
    (parameter_head_read (head_of_parameter p) k.front k.first, t.0, t.1))
    (λ (k : where_is (head_of_parameter p ≡ no_parameter) (typed p) ws). let t = typed_read p ws k.1 h in
    (subst (λ (s : ParameterSeen). IsDefault s.default) (sym k.0) tt, t.0, t.1)) f

separated_read : (first : Bool) (p : Parameter) (ws : List Word) → separated first p ws → AllFine ws → IsPrintableParameter p
separated_read true p ws f h = parameter_read p ws f h
separated_read false p ws f h = parameter_read p f.back f.second (second_fine ws f h)

-- ---- lists

-- Facts about each item, and about the end.
list_read : {S A B : Type 0} (F : S → A → List Word → Type 0) (grow : S → A → S) (apart : A → Word → Bool) (E : S → B → List Word → Type 0)
    (P : A → Type 0) (Q : Type 0) (b : B)
    → ((s : S) (x : A) (ws : List Word) → F s x ws → AllFine ws → P x) → ((s : S) (ws : List Word) → E s b ws → AllFine ws → Q)
    → (s : S) (xs : List A) (ws : List Word) → listed F grow apart E s xs b ws → AllFine ws → AllByRecursion P xs × Q
list_read F grow apart E P Q b each end s [] ws f h = (tt, end s ws f h)
list_read F grow apart E P Q b each end s (x ∷ xs) ws f h =
    let rest = second_fine ws f h in
    let others = list_read F grow apart E P Q b each end (grow s x) xs f.second.back f.second.second (second_fine f.back f.second rest) in
    ((each s x f.front f.first (first_fine ws f h), others.0), others.1)

-- how many there are
parameters_end : (k : MethodKind) (n : ℕ) (ps : List Parameter) (ws : List Word)
    → listed next_parameter one_more nowhere (last_parameter k) n ps tt ws → may_end k (n + length ps) ≡ true
parameters_end k n [] ws f = subst (λ (m : ℕ). may_end k m ≡ true) (omega arith) f.0
parameters_end k n (p ∷ ps) ws f = subst (λ (m : ℕ). may_end k m ≡ true) (omega arith) (parameters_end k (n + 1) ps f.second.back f.second.second)

-- ---- methods

method_step : (s : MethodSeen) (x : MethodAttribute) (ws : List Word) → IdIf s.id → method_attribute x ws → IdIf (method_grow s x).id
method_step s (MethodId i) ws h f = id_form_read i f.second.second.front f.second.second.first
method_step s Propget ws h f = h
method_step s Propput ws h f = h
method_step s MethodHelp ws h f = h

method_end : (b : MethodHead) (o : Option ℤ) (k : MethodKind) → IdIf o → method_head_of o k ≡ Some b → IsId b.id
method_end b None k h e = no_some b e
method_end b (Some i) k h e = subst (λ (p : MethodHead). IsId p.id) (some_is (record { id = i; kind = k }) b e) h

method_head_read : (b : MethodHead) (ws : List Word) → method_head b ws → IsId b.id
unfolding method_head
method_head_read b ws f = attributes_read method_attribute method_may method_grow method_finish (λ (s : MethodSeen). IdIf s.id)
    (λ (p : MethodHead). IsId p.id) b method_step (λ s h e. method_end b s.id s.kind h e) no_method ws tt f

result_read : (k : MethodKind) (t : Option ValueType) (ws : List Word) → result_type k t ws → IsResult k t
unfolding result_type
result_read k None ws f = f.0
result_read k (Some t) ws f = (f.0, value_type_read t ws f.1)

method_read : (m : MethodValue) (ws : List Word) → method m ws → AllFine ws → IsMethod m
unfolding method
method_read m ws f h =
    let item_body = f.second in
    let a = second_fine f.back item_body (second_fine ws f h) in
    let name = item_body.second in
    let b = second_fine name.back name.second (second_fine item_body.back name a) in
    let list = name.second.second in
    let all = list_read next_parameter one_more nowhere (last_parameter m.kind) IsPrintableParameter (Unit {0}) tt
    (λ n p vs g k. separated_read (n == 0) p vs g k) (λ n vs g k. tt) 0 m.parameters list.front list.first (first_fine name.second.back list b) in (
      method_head_read (record { id = m.id; kind = m.kind }) f.front f.first,
      result_read m.kind m.value_type item_body.front item_body.first,
      name_read m.name name.front name.first (first_fine item_body.back name a),
      all.0,
      subst (λ (n : ℕ). may_end m.kind n ≡ true) (omega arith) (parameters_end m.kind 0 m.parameters list.front list.first),
    )

-- ---- interfaces and coclasses

methods_read : (n : ℕ) (ms : List MethodValue) (ws : List Word) → methods n ms ws → AllFine ws → AllByRecursion IsMethod ms
methods_read n ms ws f h = ⊎_elim
    (λ (k : (symbol (codes "methods") ▸ symbol (codes ":") ▸ listed (λ (k : ℕ). method) one_more nowhere closing n ms tt) ws).
    (list_read (λ (k : ℕ). method) one_more nowhere closing IsMethod (Unit {0}) tt (λ n m vs g l. method_read m vs g l)
    (λ n vs g l. tt) n ms k.second.back k.second.second (second_fine k.back k.second (second_fine ws k h))).0)
    (λ (k : where_is (ms ≡ []) (symbol (codes "}")) ws). subst (AllByRecursion IsMethod) (sym k.0) tt) f

members_read : (ps : List Property) (ms : List MethodValue) (ws : List Word) → members ps ms ws → AllFine ws
    → AllByRecursion IsProperty ps × AllByRecursion IsMethod ms
members_read ps ms ws f h = ⊎_elim
    (λ (k : (symbol (codes "properties") ▸ symbol (codes ":") ▸ listed (λ (n : ℕ). property) one_more nowhere methods 0 ps ms) ws). list_read
    (λ (n : ℕ). property) one_more nowhere methods IsProperty (AllByRecursion IsMethod ms) ms (λ n p vs g l. property_read p vs g l)
    (λ n vs g l. methods_read n ms vs g l) 0 ps k.second.back k.second.second (second_fine k.back k.second (second_fine ws k h)))
    (λ (k : where_is (ps ≡ []) (methods 0 ms) ws). (subst (AllByRecursion IsProperty) (sym k.0) tt, methods_read 0 ms ws k.1 h)) f

named_read : (e : Entry) (ws : List Word) → named e ws → AllFine ws → IsName e.interface
named_read e ws f h = name_read e.interface f.second.front f.second.first (first_fine f.back f.second (second_fine ws f h))

entry_read : (d : Bool) (e : Entry) (ws : List Word) → entry_by d e ws → AllFine ws → IsName e.interface
entry_read true e ws f h = let a = second_fine ws f h in let b = second_fine f.back f.second a in named_read e f.second.second.back f.second.second.second
    (second_fine f.second.back f.second.second b)
entry_read false e ws f h = named_read e ws f h

entries_read : (s : EntriesSeen) (es : List Entry) (ws : List Word) → listed entry entry_grow nowhere last_entry s es tt ws → AllFine ws
    → AreEntries s es
entries_read s [] ws f h = f.0
entries_read s (e ∷ es) ws f h = (
  f.first.0,
  entry_read e.is_default e f.front f.first.1 (first_fine ws f h),
  entries_read (entry_grow s e) es f.second.back f.second.second
      (second_fine f.back f.second (second_fine ws f h)),
)

body_read : (x : Item) (g : List ℕ) (ws : List Word) → item_body x ws → AllFine ws → IsGuid (guid_of_item x) → IsItem x
body_read (items.Interface d) g ws f h k =
    let a = second_fine ws f h in
    let b = second_fine f.back f.second a in
    let c = second_fine f.second.back f.second.second b in
    let all = members_read d.properties d.methods f.second.second.second.front f.second.second.second.first
    (first_fine f.second.second.back f.second.second.second c) in
    (k, name_read d.name f.second.front f.second.first (first_fine f.back f.second a), all.0, all.1)
body_read (items.Coclass c) g ws f h k =
    let a = second_fine ws f h in
    let b = second_fine f.back f.second a in
    let d = second_fine f.second.back f.second.second b in (
      k,
      name_read c.name f.second.front f.second.first (first_fine f.back f.second a),
      entries_read no_entry c.entries f.second.second.second.front f.second.second.second.first (first_fine f.second.second.back f.second.second.second d),
    )

item_read : (x : Item) (ws : List Word) → item x ws → AllFine ws → IsItem x
item_read x ws f h = let g = f.form in body_read x (guid_of_item x) g.back g.second.1 (second_fine ws g h)
    (subst IsGuid g.second.0 (head_read false f.value g.front g.first).0)

-- ---- a library

abbrev IsContent : LibraryContent → Type 0
IsContent Import = Unit {0}
IsContent (OfItem x) = IsItem x

element_read : (s : ItemsSeen) (e : LibraryContent) (ws : List Word) → element e ws → AllFine ws → IsContent e
unfolding element
element_read s Import ws f h = tt
element_read s (OfItem x) ws f h = item_read x ws f h

contents_read : (es : List LibraryContent) → AllByRecursion IsContent es → AllByRecursion IsItem (items_in es)
contents_read [] h = tt
contents_read (Import ∷ es) h = contents_read es h.1
contents_read (OfItem x ∷ es) h = (h.0, contents_read es h.1)

elements_read : (xs : List Item) (ws : List Word) → library_contents xs ws → AllFine ws → AllByRecursion IsItem xs
unfolding library_contents
elements_read xs ws f h =
    let g = f.form in
    let all = list_read (λ (s : ItemsSeen). element) elements_grow semicolon_after closing IsContent (Unit {0}) tt element_read
    (λ s vs k l. tt) no_items f.value g.front g.first (first_fine ws g h) in
    subst (AllByRecursion IsItem) (sym g.second.fact) (contents_read f.value all.0)

pub is_printable_tree : (text : List ℕ) (t : TreeValue) → IsTree text t → IsPrintable t
is_printable_tree text t is =
    let f = is.form in
    let all = words_fine text is.tokens is.are in
    let a = second_fine (words_of text is.tokens) f all in
    let b = second_fine f.back f.second a in
    let c = second_fine f.second.back f.second.second b in
    let d = second_fine f.second.second.back f.second.second.second c in
    let head = head_read true (record { guid = t.guid; version = t.version }) f.front f.first in
    record {
      guid = head.0;
      version = head.1;
      name = name_read t.name f.second.second.front f.second.second.first (first_fine f.second.back f.second.second b);
      items = elements_read t.items f.second.second.second.second.front f.second.second.second.second.first
          (first_fine f.second.second.second.back f.second.second.second.second d);
      short = is.kept limits.Name;
      interfaces = is.kept limits.Interfaces;
      coclasses = is.kept limits.Coclasses;
      members = is.kept limits.Members;
      parameters = is.kept limits.Params;
    }
