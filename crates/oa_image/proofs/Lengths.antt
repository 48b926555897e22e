-- Lengths of images.
use Rattle.std.proofs.Common.{◌≡◌, ◌*◌, List, [], ◌∷◌, length, refl, arith, ℤ}
use Rattle.std.specs.List.{flat_map}
use Rattle.std.proofs.lemmas.List.{length-append}
use Rattle.oa_formats.specs.promise.Formats.{raw, made_where, tagged}
use Rattle.oa_formats.specs.promise.Numbers.{u8, u32, i32}
use Rattle.oa_formats.specs.Answers.{HasBytes}
use Rattle.oa_image.specs.promise.Events.{event}

pub indices_len : (index : List ℤ) → length (flat_map i32.image index) ≡ 4 * length index
unfolding i32 u32 made_where raw
indices_len [] = refl
indices_len (i ∷ index) = omega (arith, length-append (i32.image i) (flat_map i32.image index), indices_len index)

pub event_bytes : HasBytes event
unfolding event tagged u8 made_where
event_bytes e is = omega arith
