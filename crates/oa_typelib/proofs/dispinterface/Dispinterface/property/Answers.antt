use Rattle.std.proofs.Common.{◌≡◌, ℤ, subst}
use Rattle.std.proofs.Math.Facts.{to_z-of_z}
use Rattle.oa_typelib.specs.promise.Members.{forms_with}
use Rattle.oa_typelib.proofs.Found.{property_is_bindable}
use Rattle.oa_typelib.proofs.dispinterface.Dispinterface.property.Goals as goal

pub returns-clause-bindable : goal.returns-clause-bindable
returns-clause-bindable c =
    let forms = subst (λ (z : ℤ). c.forms_with.result ≡ forms_with z c.args.self.now) (to_z-of_z c.ranges.id) c.forms_with.ensures in
    rw (c.property.ensures, forms) (property_is_bindable c.args.self.now c.args.id c.is_sound.ensures)
