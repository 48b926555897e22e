use Rattle.std.proofs.Common.{◌≡◌, ℤ, subst}
use Rattle.std.proofs.Math.Facts.{to_z-of_z}
use Rattle.oa_typelib.specs.promise.Members.{forms_with, main_form}
use Rattle.oa_typelib.proofs.Found.{found_formed, member_bindable}
use Rattle.oa_typelib.proofs.dispinterface.Dispinterface.member.Goals as goal

pub returns-clause-bindable : goal.returns-clause-bindable
returns-clause-bindable c =
    let forms = subst (λ (z : ℤ). c.forms_with.result ≡ forms_with z c.args.self.now) (to_z-of_z c.ranges.id) c.forms_with.ensures in
    rw (c.find.ensures, forms) (member_bindable c.args.self.now c.args.id c.args.access c.is_sound.ensures)

pub returns-clause-formed : goal.returns-clause-formed
returns-clause-formed c = rw c.find.ensures (found_formed (main_form c.forms_with.result) c.forms_with.result c.args.access)
