use Rattle.std.proofs.Common.{append_assoc}
use Rattle.oa_model.specs.promise.Guids.{wire_order}
use Rattle.oa_typelib.specs.Contents.{content_of}
use Rattle.oa_decision.specs.promise.DescriptionFields.{content_head, description_head}
use Rattle.oa_decision.proofs.description.put_head.Goals as goal

pub returns : goal.returns
unfolding description_head
returns c =
    rw (
      c.in_ok-extend_from_slice-2.ensures.items,
      c.guid_to_wire.ensures,
      c.in_ok-extend_from_slice.ensures.items,
      c.in_ok-head.ensures,
      ← c.description.view_is,
    )
    (append_assoc c.args.out.now.items (content_head (content_of c.description.inside.content)) (wire_order c.description.inside.guid))
