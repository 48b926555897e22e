-- Definitions for contracts and proofs, beside promise/Arrays.
use Rattle.std.proofs.Common.{◌≡◌, true, List, refl}
use Rattle.std.proofs.lemmas.Bool.{lt-ltb, le-leb}
use Rattle.oa_model.specs.declared.bound.Bound.{Bound}
use Rattle.oa_model.specs.declared.var_type.VarType.{VarType}
use Rattle.oa_array.specs.promise.Arrays.{IsArrayShape}
use Rattle.oa_formats.specs.promise.Arrays.{is_shape}

pub shape_here : (t : VarType) (bounds : List Bound) → IsArrayShape t bounds → is_shape t bounds ≡ true
shape_here t bounds shape = rw (shape.typed, lt-ltb _ _ shape.some, le-leb _ _ shape.few, le-leb _ _ shape.small) refl
