use Rattle.std.proofs.Common.{ℤ, get_or, take, pos, arith}
use Rattle.std.specs.Prelude.{FitsSigned}
use Rattle.std.specs.Int.{w32}
use Rattle.std.proofs.lemmas.Int.{to_z-of_z}
use Rattle.std.proofs.lemmas.List.{flat_map_more, take_all, take_more}
use Rattle.oa_record.specs.promise.Replies.{signed_word}
use Rattle.oa_record.proofs.fields.put_ids.Goals as goal

pub ids-preserved : goal.ids-preserved
ids-preserved c =
    let id : ℤ = get_or c.args.ids.now c.ids.id-index (pos 0) in
    let fits : FitsSigned w32 id = grind arith in
    rw (
      c.in_ok-extend_from_slice.ensures.items,
      c.signed_bytes.ensures,
      to_z-of_z w32 id fits,
      c.ids.invariant,
      take_more c.args.ids.now c.ids.id-index
          (pos 0) c.ids-test.true,
    )
    (flat_map_more signed_word c.args.out.now.items (take c.ids.id-index c.args.ids.now) id)

pub returns : goal.returns
returns c = rw (take_all c.ids.id-index c.args.ids.now c.ids-test.false) at c.ids.invariant
