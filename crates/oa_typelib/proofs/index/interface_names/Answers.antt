use Rattle.std.proofs.Common.{ℕ, List, map, take, sym, ap, ◌∙◌, Bor}
use Rattle.oa_idl.specs.promise.Values.{InterfaceValue}
use Rattle.oa_typelib.specs.promise.Descriptions.{interfaces_of}
use Rattle.oa_sema.specs.promise.Libraries.{as_interface}
use Rattle.oa_typelib.proofs.Kept.{one_more, none_more, seen_more}
use Rattle.oa_typelib.proofs.index.interface_names.Goals as goal
use Rattle.oa_typelib.proofs.index.interface_names.Goals.{in-Interface+in_ok-push-in-Interface, in-Coclass}

pub loop-item-preserved : goal.loop-item-preserved
loop-item-preserved c =
    elim c.match-item.branch [
      | in-Interface+in_ok-push-in-Interface w ↦ rw w.names-is
          (seen_more (λ (n : Bor (List ℕ)). n.now) (λ (i : InterfaceValue). i.name) c.loop-item.names.items w.push.new.self.items
          (interfaces_of (take c.loop-item.item-index c.args.items.now)) _ _ w.in-Interface.interface c.loop-item.invariant
          w.in_ok-push-in-Interface.ensures.items (ap (λ (i : InterfaceValue). i.name) w.interface.view_is)
          (one_more as_interface c.args.items.now c.loop-item.item-index c.item-item.result c.loop-item-test.true c.item-item.is w.in-Interface.interface
          (ap as_interface w.in-Interface.is)))
      | in-Coclass w ↦ rw w.names-is (c.loop-item.invariant
          ∙ ap (map (λ (i : InterfaceValue). i.name))
          (sym (none_more as_interface c.args.items.now c.loop-item.item-index c.item-item.result c.loop-item-test.true c.item-item.is
          (ap as_interface w.in-Coclass.is))))
    ]
