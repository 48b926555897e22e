-- A text is that of one library, and a library is that of its canonical text.
use Rattle.std.proofs.Common.{rules, ◌≡◌, ℕ, ◌≤◌, nat_le, Bool, true, false, if◌then◌else◌, List, length, Option, Some, None, refl, sym, ap, ◌∙◌, subst}
use Rattle.std.specs.Option.{option_or}
use Rattle.oa_printer.specs.promise.Canonical.{canonical}
use Rattle.oa_idl.specs.promise.IsTree.{IsTree, MayBeText}
use Rattle.oa_idl.specs.promise.Trees.{TreeValue}
use Rattle.oa_model.specs.promise.Limits.{max_library_bytes}
use Rattle.oa_sema.specs.declared.fault.CheckError.{CheckError}
use Rattle.oa_sema.specs.declared.fault.CheckError.TheVariants.{TextTooLong}
use Rattle.oa_sema.specs.promise.Breaches.{text_breach, tree_breach}
use Rattle.oa_typelib.specs.promise.Checked.{IsChecked}
use Rattle.oa_sema.specs.promise.IsLibrary.{IsLibrary}
use Rattle.oa_sema.specs.promise.Libraries.{marked}
use Rattle.oa_turn.specs.promise.Replacing.{AsksLibrary}

second_none : (one two : Option CheckError) → option_or one two ≡ None → two ≡ None
second_none None two is = is
second_none (Some e) two is = absurd (cc)

short_text : (tree : TreeValue) → text_breach tree ≡ None → MayBeText (canonical (marked tree))
unfolding text_breach
short_text tree is = by (nat_le (length (canonical (marked tree))) max_library_bytes) refl is
  where
    by : (b : Bool) → nat_le (length (canonical (marked tree))) max_library_bytes ≡ b → (if b then None else Some TextTooLong) ≡ None
        → length (canonical (marked tree)) ≤ max_library_bytes
    by true at none = search (at, rules)
    by false at none = absurd (cc)

module _ (marked_is_read : (text : List ℕ) (t : TreeValue) → IsTree text t → MayBeText (canonical (marked t)) → IsTree (canonical (marked t)) (marked t)) where
  pub is_read : (t : TreeValue) → IsChecked t → IsTree (canonical t) t
  is_read t is =
      let library = is.1 in
      subst (λ (u : TreeValue). IsTree (canonical u) u) (sym library.says)
      (marked_is_read is.0 library.tree library.stands
      (short_text library.tree (second_none (tree_breach library.tree) (text_breach library.tree) library.unbroken)))

same_text : (a b : List ℕ) → Some a ≡ Some b → a ≡ b
same_text a b e = cc

module _ (one_tree : (text : List ℕ) (s t : TreeValue) → IsTree text s → IsTree text t → s ≡ t) where
  one_library : (text : List ℕ) (a b : TreeValue) → IsLibrary text a → IsLibrary text b → a ≡ b
  one_library text a b one two = one.says ∙ ap marked (one_tree text one.tree two.tree one.stands two.stands) ∙ sym two.says

  -- a body asks for one library
  pub one_asked : (body : List ℕ) (a b : TreeValue) → AsksLibrary body a → AsksLibrary body b → a ≡ b
  one_asked body a b one two =
      one_library one.text a b one.stands.1 (subst (λ (l : List ℕ). IsLibrary l b) (same_text two.text one.text (sym two.lies ∙ one.lies)) two.stands.1)
