-- The content of a description in contracts, and the result of `describe`.
use Rattle.std.specs.Prelude.{◌≡◌, Option, Some, None, Result, Ok, Err, IsSome}
use Rattle.oa_typelib.specs.declared.described.Content.{Content}
use Rattle.oa_typelib.specs.declared.described.Content.TheVariants.{Interface, Coclass}
use Rattle.oa_typelib.specs.declared.described.DescribeError.{DescribeError}
use Rattle.oa_typelib.specs.declared.described.DescribeError.TheVariants.{BadIndex, Memory}
use Rattle.oa_typelib.specs.promise.DescriptionValues.{ContentDescription, DescriptionValue}
use Rattle.oa_typelib.specs.promise.DescriptionValues.ContentDescription.{OfInterface, OfCoclass}

-- The content as contracts see it.
abbrev pub content_of : Content → ContentDescription
content_of (Interface members) = OfInterface members.items
content_of (Coclass entries) = OfCoclass entries.items

-- The result of `describe` is right: `Ok` with the description if there is one, `BadIndex` only if there is none,
-- `Memory` only if there is one.
abbrev pub Describes : Option DescriptionValue → Result DescriptionValue DescribeError → Type 0
Describes found (Ok d) = found ≡ Some d
Describes found (Err BadIndex) = found ≡ None
Describes found (Err Memory) = IsSome found
