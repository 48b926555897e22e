-- Classes of bytes, and the ends of strings and comments.
use Rattle.std.specs.Prelude.{ℕ, suc, ◌==◌, ◌&&◌, ◌||◌, Bool, not, nat_lt, nat_le, if◌then◌else◌, List, [], ◌∷◌, length}
use Rattle.std.specs.Prelude.{drop, get_or, Option, Some, None}
use Rattle.std.specs.Char.{is_ascii_digit, is_ascii_hexdigit, is_ascii_alphabetic, is_ascii_alphanumeric}
use Rattle.oa_tokens.specs.declared.scan.Class.{Class}
use Rattle.oa_tokens.specs.declared.scan.Class.TheVariants.{Digit, Hexadecimal, Letter, Named, Blank, Line, Mark}
use Rattle.oa_tokens.specs.declared.scan.Close.{Close}
use Rattle.oa_tokens.specs.declared.scan.Close.TheVariants.{Quote, Comment}

-- The byte is in the class.
unfoldable pub is_in : Class → ℕ → Bool
is_in Digit b = is_ascii_digit b
is_in Hexadecimal b = is_ascii_hexdigit b
is_in Letter b = is_ascii_alphabetic b || b == 95
is_in Named b = is_ascii_alphanumeric b || b == 95
is_in Blank b = b == 32 || b == 9 || b == 10 || b == 13
is_in Line b = not (b == 10) && not (b == 13)
is_in Mark b = b == 91 || b == 93 || b == 40 || b == 41 || b == 123 || b == 125 || b == 44 || b == 59 || b == 58
    || b == 46 || b == 45

-- The number of bytes at the front that pass the test.
unfoldable pub run : (ℕ → Bool) → List ℕ → ℕ
run p [] = 0
run p (b ∷ bs) = if p b then suc (run p bs) else 0

-- The byte ends a string or comment; `marked` is whether the byte before it is marked. The second definition says that
-- the byte itself is marked: it is an escaping backslash, or a `*` in a comment.
abbrev pub closes : Close → Bool → ℕ → Bool
closes Quote marked b = not marked && b == 34
closes Comment marked b = marked && b == 47

abbrev pub marks : Close → Bool → ℕ → Bool
marks Quote marked b = not marked && b == 92
marks Comment marked b = b == 42

-- One more, if there is a number.
abbrev pub incremented : Option ℕ → Option ℕ
incremented None = None
incremented (Some n) = Some (suc n)

-- The number of bytes up to and including the one that ends the string or comment.
unfoldable pub end_from : Close → Bool → List ℕ → Option ℕ
end_from close marked [] = None
end_from close marked (b ∷ bs) = if closes close marked b then Some 1
    else incremented (end_from close (marks close marked b) bs)

-- n hexadecimal digits, and a hyphen.
unfoldable pub group : ℕ → List ℕ → Bool
group n bs = run (is_in Hexadecimal) bs == n && (nat_lt n (length bs) && get_or bs n 0 == 45)

-- 8-4-4-4-12 hexadecimal digits.
unfoldable pub is_guid : List ℕ → Bool
is_guid bs = group 8 bs
    && (group 4 (drop 9 bs) && (group 4 (drop 14 bs) && (group 4 (drop 19 bs) && nat_le 12 (run (is_in Hexadecimal)
    (drop 24 bs)))))
