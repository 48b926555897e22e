-- The types that a library declares.
use Rattle.std.specs.Prelude.{List, ℕ, IfSome}
use Rattle.std.specs.List.{AllByRecursion}
use Rattle.oa_idl.specs.promise.IsTree.{IsTree}
use Rattle.oa_idl.specs.promise.Trees.{TreeValue}
use Rattle.oa_idl.specs.declared.parts.Parameter.{Parameter}
use Rattle.oa_idl.specs.declared.items.Item.{Item}
use Rattle.oa_idl.specs.declared.items.Item.TheVariants.{Interface, Coclass}
use Rattle.oa_variant.specs.Variants.{HasZero}
use Rattle.oa_sema.specs.promise.DeclarationValues.{DeclarationValue}
use Rattle.oa_sema.specs.promise.Declarations.{declarations}

-- The tree is parsed from some text.
abbrev pub IsOfText : TreeValue → Type 0
IsOfText tree = (text : List ℕ) × IsTree text tree

-- The declared type is void or has a zero value, and so has the type of each parameter (MS-OAUT section 2.2.8: the
-- elements of an array have an sfType).
abbrev pub IsTypedDeclaration : DeclarationValue → Type 0
IsTypedDeclaration d =
    IfSome d.value_type HasZero × AllByRecursion (λ (p : Parameter). HasZero p.value_type) d.parameters

-- Each declaration of the item is typed, if it is an interface.
abbrev pub IsTypedItem : Item → Type 0
IsTypedItem (Interface i) = AllByRecursion IsTypedDeclaration (declarations i)
IsTypedItem (Coclass c) = Unit {0}

-- Each declaration of the tree is typed.
abbrev pub IsTyped : TreeValue → Type 0
IsTyped tree = AllByRecursion IsTypedItem tree.items
