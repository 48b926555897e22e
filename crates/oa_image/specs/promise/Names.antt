-- The images of names of cells (this project's choice).
use Rattle.std.proofs.Common.{List, refl}
use Rattle.oa_variant.specs.declared.scalar.Scalar.{Scalar}
use Rattle.oa_table.specs.promise.Places.{PlaceValue}
use Rattle.oa_table.specs.declared.name.CellName.{CellName}
use Rattle.oa_formats.specs.promise.Formats.{Format, ◌▸◌, made, counted}
use Rattle.oa_formats.specs.promise.Numbers.{u16, u32, i32, guid_format}
use Rattle.oa_formats.specs.promise.Values.{scalar_format}

unfoldable pub key : Format (List Scalar)
key = counted u16 scalar_format

-- interface, DISPID, key
unfoldable pub place : Format PlaceValue
place =
    made (λ p. record { interface = p.0; dispid = p.1.0; key = p.1.1 }) (λ p. (p.interface, (p.dispid, p.key)))
    (guid_format ▸ i32 ▸ key)
    (λ p. refl) (λ p. refl)

unfoldable pub name : Format CellName
name = made (λ p. record { object = p.0; place = p.1 }) (λ n. (n.object, n.place)) (u32 ▸ place) (λ p. refl) (λ n. refl)
