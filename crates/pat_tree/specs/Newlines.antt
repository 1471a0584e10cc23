-- The newlines of a convention, and its name.
use Rattle.std.specs.Prelude.{ℕ, Bool, true, false, List, Option, Some, None, codes, if◌then◌else◌}
use Rattle.std.specs.Str.{bytes_eq, str_eq_ignore_ascii_case}
use Rattle.pat_tree.specs.declared.options.Newline.{Newline}
use Rattle.pat_tree.specs.declared.options.Newline.TheVariants as newline
use Rattle.pat_tree.specs.declared.options.Bsr.{Bsr}
use Rattle.pat_tree.specs.declared.options.Bsr.TheVariants as bsr
use Rattle.byte_lanes.specs.declared.line_end.EndKind.{EndKind}
use Rattle.byte_lanes.specs.declared.line_end.EndKind.TheVariants.{Cr, Lf, CrLf, AnyCrLf, Any, AnyUtf, Nul}

-- the convention whose name passes the test (pcre2pattern, "Newline conventions")
abbrev pub newline_by : (List ℕ → Bool) → Option Newline
newline_by is_this =
    if is_this (codes "CR") then Some newline.Cr
    else if is_this (codes "LF") then Some newline.Lf
    else if is_this (codes "CRLF") then Some newline.CrLf
    else if is_this (codes "ANYCRLF") then Some newline.AnyCrLf
    else if is_this (codes "ANY") then Some newline.Any
    else if is_this (codes "NUL") then Some newline.Nul
    else None

-- of a name in capital letters, and of one in any case
abbrev pub newline_named : List ℕ → Option Newline
newline_named name = newline_by (λ known. bytes_eq name known)

abbrev pub newline_in_any_case : List ℕ → Option Newline
newline_in_any_case name = newline_by (λ known. str_eq_ignore_ascii_case name known)

-- the texts that end a line; with UTF any Unicode newline is one in UTF-8, else one of single bytes
abbrev pub end_kind : Newline → Bool → EndKind
end_kind newline.Cr utf = Cr
end_kind newline.Lf utf = Lf
end_kind newline.CrLf utf = CrLf
end_kind newline.AnyCrLf utf = AnyCrLf
end_kind newline.Any false = Any
end_kind newline.Any true = AnyUtf
end_kind newline.Nul utf = Nul

-- the texts of `\R` (pcre2pattern, "Newline sequences")
abbrev pub break_kind : Bsr → Bool → EndKind
break_kind bsr.Unicode true = AnyUtf
break_kind bsr.Unicode false = Any
break_kind bsr.AnyCrLf utf = AnyCrLf

-- the greatest length of texts of three, two and one bytes of which one stands at a place
abbrev pub longest_of : Bool → Bool → Bool → ℕ
longest_of three two one = if three then 3 else if two then 2 else if one then 1 else 0
