-- Lines that stand in HTML as they are printed as text: in an element of their own, if there are
-- some.
use Rattle.std.specs.Prelude.{◌++◌, ℕ, List, [], ◌∷◌, codes}
use Rattle.bgp_html.specs.Escaped.{escaped}
use Rattle.bgp_html.specs.declared.printed.Kind.{Kind}
use Rattle.bgp_html.specs.declared.printed.Kind.TheVariants as kinds

-- all of it, and nothing else, stands in elements that are called samp: output of a program (the
-- HTML standard, 4.5.17)
abbrev pub kind_start : Kind → List ℕ
kind_start kinds.Connection = codes "<h2><samp>"
kind_start kinds.Yes = codes "<h3><samp class=\"yes\">"
kind_start kinds.No = codes "<h3><samp class=\"no\">"
kind_start kinds.Unfinished = codes "<h3><samp class=\"due\">"
kind_start kinds.NotJudged = codes "<h3><samp class=\"not\">"
kind_start kinds.Possible = codes "<pre><samp>"
kind_start kinds.Beside = codes "<pre><samp>"
kind_start kinds.Whole = codes "<p><samp>"
kind_start kinds.Totals = codes "<p class=\"sum\"><samp>"

abbrev pub kind_end : Kind → List ℕ
kind_end kinds.Connection = codes "</samp></h2>\n"
kind_end kinds.Yes = codes "</samp></h3>\n"
kind_end kinds.No = codes "</samp></h3>\n"
kind_end kinds.Unfinished = codes "</samp></h3>\n"
kind_end kinds.NotJudged = codes "</samp></h3>\n"
kind_end kinds.Possible = codes "</samp></pre>\n"
kind_end kinds.Beside = codes "</samp></pre>\n"
kind_end kinds.Whole = codes "</samp></p>\n"
kind_end kinds.Totals = codes "</samp></p>\n"

-- what stands in HTML for lines
abbrev pub printed_html : Kind → List ℕ → List ℕ
printed_html kind [] = []
printed_html kind (octet ∷ text) =
    kind_start kind ++ (escaped (octet ∷ text) ++ kind_end kind)
