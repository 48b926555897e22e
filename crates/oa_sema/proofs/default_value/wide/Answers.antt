use Rattle.std.proofs.Common.{◌++◌, ◌∷◌, [], get_or, ap, ◌∙◌, sym}
use Rattle.oa_sema.proofs.Units.{wide_more}
use Rattle.oa_sema.proofs.default_value.wide.Goals as goal

pub loop-character-preserved : goal.loop-character-preserved
loop-character-preserved c =
    c.in_ok-extend_from_slice.ensures.items
    ∙ ap (λ bs. bs ++ get_or c.args.characters.now c.loop-character.character-index 0 ∷ 0 ∷ []) c.loop-character.invariant
    ∙ sym (wide_more c.args.characters.now c.loop-character.character-index 0 c.loop-character-test.true)
