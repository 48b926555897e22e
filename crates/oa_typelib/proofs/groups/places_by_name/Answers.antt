use Rattle.std.proofs.Common.{ℕ, List, sym, ◌∙◌, Bor}
use Rattle.std.proofs.lemmas.Cmp.{nat_list_eq_equiv}
use Rattle.oa_model.specs.promise.Folding.{folded_name}
use Rattle.oa_sema.specs.promise.Libraries.{same}
use Rattle.oa_typelib.proofs.Grouping.{keys_grow, places_grow}
use Rattle.oa_typelib.proofs.groups.places_by_name.Goals as goal

pub names-preserved : goal.names-preserved
names-preserved c = record {
  keys = c.in_ok-add.ensures.keys ∙ rw (c.in_ok-units.ensures, c.names.invariant.keys)
      (sym (keys_grow same nat_list_eq_equiv (λ (n : Bor (List ℕ)). folded_name n.now) c.args.names.now c.names.place c.index-names-place.result
      c.names-test.true c.index-names-place.is));
  places = c.in_ok-add.ensures.places ∙ rw (c.in_ok-units.ensures, c.names.invariant.keys, c.names.invariant.places)
      (sym (places_grow same nat_list_eq_equiv (λ (n : Bor (List ℕ)). folded_name n.now) c.args.names.now c.names.place c.index-names-place.result
      c.names-test.true c.index-names-place.is));
}
