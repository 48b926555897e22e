-- The members of an interface, and the form of one that a call uses. A member is the declarations of one DISPID and of
-- one name: one declaration, or a get and a put.
use Rattle.std.specs.Prelude.{ℕ, ℤ, Bool, true, false, not, ◌&&◌, nat_eq, if◌then◌else◌, List, Option, Some, None}
use Rattle.std.specs.Prelude.{Result, Ok, Err, find, slice_get, is_some, bit_and}
use Rattle.std.specs.List.{filter}
use Rattle.std.specs.Option.{option_map, option_or}
use Rattle.std.specs.Ordering.{int_eq}
use Rattle.oa_model.specs.promise.Invoke.{method_flag, get_flag, put_flag}
use Rattle.oa_model.specs.declared.var_type.ValueType.{ValueType}
use Rattle.oa_idl.specs.promise.Values.{InterfaceValue}
use Rattle.oa_sema.specs.declared.declaration.DeclarationKind.{DeclarationKind}
use Rattle.oa_sema.specs.declared.declaration.DeclarationKind.TheVariants as declared
use Rattle.oa_sema.specs.promise.DeclarationValues.{DeclarationValue}
use Rattle.oa_sema.specs.promise.Declarations.{declarations, own_parameters, type_of_value}
use Rattle.oa_typelib.specs.promise.MemberValues.{MemberValue}
use Rattle.oa_sema.specs.promise.Libraries.{same_name}
use Rattle.oa_typelib.specs.declared.access.Access.{Access}
use Rattle.oa_typelib.specs.declared.access.Access.TheVariants.{Flags, Get, Put}
use Rattle.oa_typelib.specs.declared.access.Kind.{Kind}
use Rattle.oa_typelib.specs.declared.access.Kind.TheVariants as kinds
use Rattle.oa_typelib.specs.declared.access.MemberFault.{MemberFault}
use Rattle.oa_typelib.specs.declared.access.MemberFault.TheVariants.{MemberNotFound, NotImplemented}

-- The declarations with a DISPID, and those with a name without regard to the case of A to Z, in the text's order.
abbrev pub forms_with : ℤ → InterfaceValue → List DeclarationValue
forms_with id i = filter (λ (d : DeclarationValue). int_eq id d.id) (declarations i)

abbrev pub forms_named : List ℕ → InterfaceValue → List DeclarationValue
forms_named name i = filter (λ (d : DeclarationValue). same_name name d.name) (declarations i)

-- A declaration of this kind has the form: a call can read a value by it, or set one.
abbrev pub lets : Kind → DeclarationKind → Bool
lets kinds.Get declared.Property = true
lets kinds.Get declared.ReadonlyProperty = true
lets kinds.Get declared.Get = true
lets kinds.Put declared.Property = true
lets kinds.Put declared.Put = true
lets kind other = false

-- The kind is a method.
abbrev pub is_method : DeclarationKind → Bool
is_method declared.Method = true
is_method other = false

-- The first declaration of a member that has the form.
abbrev pub form_for : Kind → List DeclarationValue → Option DeclarationValue
form_for kind forms = find (λ (d : DeclarationValue). lets kind d.kind) forms

-- The declaration whose name and parameters are those of the member: the first that can be read, otherwise the first.
abbrev pub main_form : List DeclarationValue → Option DeclarationValue
main_form forms = option_or (form_for kinds.Get forms) (slice_get forms 0)

-- The property of these declarations, whose name and parameters are those of `d`.
abbrev pub property_of : List DeclarationValue → DeclarationValue → ValueType → MemberValue
property_of forms d t =
    record {
      id = d.id;
      name = d.name;
      value_type = t;
      parameters = own_parameters d;
      has_get = is_some (form_for kinds.Get forms);
      has_put = is_some (form_for kinds.Put forms);
    }

-- The flags of a call contain a flag: DISPATCH_METHOD, DISPATCH_PROPERTYGET or DISPATCH_PROPERTYPUT (MS-OAUT section
-- 3.1.4.4).
abbrev pub has_flag : ℕ → ℕ → Bool
has_flag flags flag = not (nat_eq (bit_and flags flag) 0)

-- The form of a property that a call uses. With flags: a put if DISPATCH_PROPERTYPUT is set, otherwise a get if
-- DISPATCH_PROPERTYGET is set (this project's choice).
abbrev pub kind_asked : Access → Option Kind
kind_asked (Flags flags) =
    if has_flag flags put_flag then Some kinds.Put else if has_flag flags get_flag then Some kinds.Get else None
kind_asked Get = Some kinds.Get
kind_asked Put = Some kinds.Put

-- The property has the form.
abbrev pub has_form : MemberValue → Kind → Bool
has_form m kinds.Get = m.has_get
has_form m kinds.Put = m.has_put

-- The property and the form, if it has that form; otherwise MemberNotFound.
abbrev pub if_formed : MemberValue → Option Kind → Result (MemberValue × Kind) MemberFault
if_formed m None = Err MemberNotFound
if_formed m (Some kind) = if has_form m kind then Ok (m, kind) else Err MemberNotFound

-- The error of a call whose member is a method: NotImplemented if the call is one of a method, since a library contains
-- no bodies of methods; otherwise MemberNotFound (this project's choice).
abbrev pub method_fault : Access → MemberFault
method_fault (Flags flags) =
    if has_flag flags method_flag && not (has_flag flags put_flag) then NotImplemented else MemberNotFound
method_fault Get = MemberNotFound
method_fault Put = MemberNotFound

-- The property and the form of it that a call uses, or MemberNotFound.
abbrev pub property_answer : Option MemberValue → Access → Result (MemberValue × Kind) MemberFault
property_answer None access = Err MemberNotFound
property_answer (Some m) access = if_formed m (kind_asked access)

-- The result of a call of the member with these declarations, of which `d` has its name and parameters: the property
-- and the form, or the error. A put without a new value has no type and is refused with MemberNotFound.
abbrev pub answer : Option DeclarationValue → List DeclarationValue → Access → Result (MemberValue × Kind) MemberFault
answer None forms access = Err MemberNotFound
answer (Some d) forms access =
    if is_method d.kind
    then Err (method_fault access)
    else property_answer (option_map (property_of forms d) (type_of_value d)) access

-- The property of these declarations, whatever form a call would use; None for a method.
abbrev pub property_with : Option DeclarationValue → List DeclarationValue → Option MemberValue
property_with None forms = None
property_with (Some d) forms = if is_method d.kind then None else option_map (property_of forms d) (type_of_value d)

-- The result of a look-up by DISPID: the property of the interface and the form that the call uses, or the error.
abbrev pub member_in : InterfaceValue → ℤ → Access → Result (MemberValue × Kind) MemberFault
member_in i id access = answer (main_form (forms_with id i)) (forms_with id i) access

-- The property of the interface with a DISPID; None if there is none.
abbrev pub property_in : InterfaceValue → ℤ → Option MemberValue
property_in i id = property_with (main_form (forms_with id i)) (forms_with id i)
