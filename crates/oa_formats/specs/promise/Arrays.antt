-- The images of arrays: the bounds, and the cells without their type, or with it in an array of VARIANT (this project's
-- choice).
use Rattle.std.proofs.Common.{◌≡◌, Bool, List, length, refl}
use Rattle.std.specs.Prelude.{nat_lt, nat_le, ◌&&◌, is_some}
use Rattle.oa_model.specs.promise.Limits.{max_dimensions, max_cells}
use Rattle.oa_model.specs.promise.Types.{sf_type_of}
use Rattle.oa_model.specs.declared.bound.Bound.{Bound}
use Rattle.oa_model.specs.declared.var_type.VarType.{VarType}
use Rattle.oa_model.specs.declared.var_type.VarType.TheVariants as types
use Rattle.oa_array.specs.promise.Arrays.{ArrayValue}
use Rattle.oa_array.specs.promise.Boxes.{box_size}
use Rattle.oa_variant.specs.declared.scalar.Scalar.{Scalar}
use Rattle.oa_formats.specs.promise.Formats.{Format, ◌▸◌, next_by, made, made_where, times, counted, only}
use Rattle.oa_formats.specs.promise.Numbers.{u16, u32, i32}
use Rattle.oa_formats.specs.promise.Values.{of_type, scalar_format}

unfoldable pub bound_format : Format Bound
bound_format = made (λ p. record { count = p.0; lower = p.1 }) (λ b. (b.count, b.lower)) (u32 ▸ i32) (λ p. refl)
    (λ b. refl)

-- whether there are arrays of the type with these bounds
abbrev pub is_shape : VarType → List Bound → Bool
is_shape t bounds =
    is_some (sf_type_of t) && nat_lt 0 (length bounds) && nat_le (length bounds) max_dimensions
    && nat_le (box_size bounds) max_cells

-- a cell
unfoldable pub cell_of : VarType → Format Scalar
cell_of types.Variant = scalar_format
cell_of t = of_type t

-- the bounds of an array of the type
unfoldable pub bounds_of : VarType → Format (List Bound)
bounds_of t = only (is_shape t) (counted u16 bound_format)

-- the part of an array's image after the number of its type; it contains no locks, which last only for a session
unfoldable pub array_format : VarType → Format (ArrayValue Scalar)
unfolding next_by
array_format t =
    made_where (λ a. (a.elem ≡ t) × (a.locks ≡ 0) × (bounds_of t).Is a.bounds
    × (times (cell_of t) (box_size a.bounds)).Is a.cells)
    (λ p. record { elem = t; bounds = p.0; cells = p.1; locks = 0 }) (λ a. (a.bounds, a.cells))
    (next_by (bounds_of t) (λ bounds. times (cell_of t) (box_size bounds)))
    (λ p is ok. ((refl, refl, is.0, is.1), refl)) (λ a h. ((h.2, h.3), rw (← h.0, ← h.1) refl))
