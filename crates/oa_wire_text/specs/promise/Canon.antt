-- The canonical encoding of texts: the content of ignored parts, and the choices between encodings (this project's
-- choice).
use Rattle.std.specs.Prelude.{true, false, ℕ, ◌%◌, List, length, replicate, Option, Some, None}
use Rattle.oa_ndr.specs.promise.Writing.{put_unit, put_bytes, put_referent}
use Rattle.oa_wire_text.specs.promise.Texts.{units}

infixl 3 ◌|>◌
abbrev pub ◌|>◌ : {A B : Type 0} → A → (A → B) → B
x |> f = f x

-- Appends a text without its referent.
abbrev pub put_blob : Option (List ℕ) → List ℕ → List ℕ
put_blob None out = out |> put_unit 4 0 |> put_unit 4 4294967295 |> put_unit 4 0
put_blob (Some text) out =
    out |> put_unit 4 (units (length text)) |> put_unit 4 (length text) |> put_unit 4 (units (length text))
    |> put_bytes text |> put_bytes (replicate (length text % 2) 0)

-- Appends a referent and its text; the null text is a null referent.
abbrev pub put_bstr : Option (List ℕ) → List ℕ → List ℕ
put_bstr None out = out |> put_referent false
put_bstr (Some text) out = out |> put_referent true |> put_blob (Some text)
