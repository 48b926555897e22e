-- The parts of a body as the code represents them. (This project's choice.)
use Rattle.oa_record.specs.promise.Layouts.{Layout}
use Rattle.oa_record.specs.Reading.{parts_of_element, put_of, redim_of}
use Rattle.oa_record.specs.declared.body_parts.Parts.{Parts}
use Rattle.oa_record.specs.declared.body_parts.Parts.TheVariants.{Create, Number, GetIds, Call, GetElement}
use Rattle.oa_record.specs.declared.body_parts.Parts.TheVariants.{PutElement, Redimension, Query}

-- The layout that a value of the code's type `Parts` represents.
abbrev pub shown : Parts → Layout
shown (Create class) = Layout.CreateBody class
shown (Number kind number) = Layout.NumberBody kind number
shown (GetIds call) = Layout.GetIdsBody call
shown (Call kind call) = Layout.CallBody kind call
shown (GetElement call indices) = Layout.GetElementBody (parts_of_element call indices)
shown (PutElement call indices value) = Layout.PutElementBody (put_of (parts_of_element call indices) value.now)
shown (Redimension call bound) = Layout.RedimensionBody (redim_of call bound)
shown (Query query) = Layout.QueryBody query
