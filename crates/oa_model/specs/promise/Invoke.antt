-- Constants of IDispatch::Invoke and of type information, for use in contracts, as MS-OAUT defines them.
use Rattle.std.specs.Prelude.{ℕ, ℤ, negsuc}

-- ---- flags of a call (MS-OAUT section 3.1.4.4)

-- DISPATCH_METHOD
abbrev pub method_flag : ℕ
method_flag = 1

-- DISPATCH_PROPERTYGET
abbrev pub get_flag : ℕ
get_flag = 2

-- DISPATCH_PROPERTYPUT
abbrev pub put_flag : ℕ
put_flag = 4

-- ---- reserved DISPIDs (MS-OAUT section 2.2.32.1)

-- DISPID_UNKNOWN, -1: the DISPID of an unknown name.
abbrev pub unknown_dispid : ℤ
unknown_dispid = negsuc 0

-- ---- how a member is called (INVOKEKIND, MS-OAUT section 2.2.14)

-- INVOKE_FUNC
abbrev pub invoke_method : ℕ
invoke_method = 1

-- INVOKE_PROPERTYGET
abbrev pub invoke_get : ℕ
invoke_get = 2

-- INVOKE_PROPERTYPUT
abbrev pub invoke_put : ℕ
invoke_put = 4

-- ---- what a description describes (TYPEKIND)

-- TKIND_DISPATCH
abbrev pub interface_kind : ℕ
interface_kind = 4

-- TKIND_COCLASS
abbrev pub coclass_kind : ℕ
coclass_kind = 5

-- ---- flags of properties, parameters and entries

-- VARFLAG_FREADONLY (MS-OAUT section 2.2.18)
abbrev pub readonly_flag : ℕ
readonly_flag = 1

-- PARAMFLAG_FIN (MS-OAUT section 2.2.15)
abbrev pub in_flag : ℕ
in_flag = 1

-- PARAMFLAG_FOPT
abbrev pub optional_flag : ℕ
optional_flag = 16

-- PARAMFLAG_FHASDEFAULT
abbrev pub has_default_flag : ℕ
has_default_flag = 32

-- IMPLTYPEFLAG_FDEFAULT: marks the default interface of a coclass.
abbrev pub default_flag : ℕ
default_flag = 1

-- ---- numbers of types (MS-OAUT section 2.2.7) that no value has

-- VT_ARRAY, which is added to the number of the elements' type.
abbrev pub vt_array : ℕ
vt_array = 8192

-- VT_VOID: the type of a method without a result.
abbrev pub vt_void : ℕ
vt_void = 24
