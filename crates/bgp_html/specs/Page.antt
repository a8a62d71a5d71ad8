-- The head of a report: what it says whatever is reported.
use Rattle.std.specs.Prelude.{◌++◌, ℕ, List, codes}

-- it may load nothing, nor run anything
abbrev pub page_start : List ℕ
page_start =
    codes "<!DOCTYPE html>\n"
    ++ (codes "<html lang=\"en\">\n"
    ++ (codes "<meta charset=\"utf-8\">\n"
    ++ (codes "<meta http-equiv=\"Content-Security-Policy\""
    ++ (codes " content=\"default-src 'none'; style-src 'unsafe-inline'\">\n"
    ++ (codes "<meta name=\"viewport\" content=\"width=device-width, initial-scale=1\">\n"
    ++ codes "<title>")))))

-- ---- the style sheet, in parts

abbrev pub style_1 : List ℕ
style_1 =
    codes ":root{color-scheme:light dark;--ink:#1b1f24;--pale:#59636e;--line:#b4bcc5;\n"
    ++ (codes "--paper:#fff;--yes:#116329;--no:#a40e26;--due:#7d4e00;--mark:#ffebe9}\n"
    ++ (codes "@media screen and (prefers-color-scheme:dark){\n"
    ++ (codes ":root{--ink:#e6edf3;--pale:#9198a1;--line:#56606b;\n"
    ++ (codes "--paper:#0d1117;--yes:#56d364;--no:#ff7b72;--due:#e3b341;--mark:#3d1a1d}}\n"
    ++ (codes "body{max-width:76rem;margin:1.5rem auto;padding:0 1rem;\n"
    ++ (codes "font:1rem/1.5 system-ui,sans-serif;color:var(--ink);background:var(--paper)}\n"
    ++ codes "h1{font-size:1.4rem;overflow-wrap:anywhere}\n"))))))

abbrev pub style_2 : List ℕ
style_2 =
    codes "h2,h3,p{margin:.5rem 0;font-size:1rem;font-weight:400}\n"
    ++ (codes "h2{margin-top:1.8rem;padding-top:.8rem;border-top:1px solid var(--line)}\n"
    ++ (codes "h2 samp::first-line{font-weight:700}\n"
    ++ (codes "h3{margin-top:1.2rem}\n"
    ++ (codes "h3,.sum{font-weight:700}\n"
    ++ (codes "pre{display:contents}caption{color:var(--pale)}\n"
    ++ (codes "samp{display:block;font:.85rem/1.5 ui-monospace,monospace;\n"
    ++ codes "font-weight:inherit;white-space:pre-wrap;overflow-wrap:anywhere;\n"))))))

abbrev pub style_3 : List ℕ
style_3 =
    codes "unicode-bidi:isolate}\n"
    ++ (codes ".yes{color:var(--yes)}\n"
    ++ (codes ".no{color:var(--no)}\n"
    ++ (codes ".due{color:var(--due)}\n"
    ++ (codes ".not,.about,summary{color:var(--pale)}\n"
    ++ (codes "samp.yes::before{content:\"\\2713\\a0\"}\n"
    ++ (codes "samp.no::before{content:\"\\2717\\a0\"}\n"
    ++ codes "samp.due::before{content:\"\\2026\\a0\"}\n"))))))

abbrev pub style_4 : List ℕ
style_4 =
    codes "samp.not::before{content:\"\\2013\\a0\"}\n"
    ++ (codes "details{margin:.6rem 0;overflow-x:auto}\n"
    ++ (codes "summary{cursor:pointer;font-size:.85rem}\n"
    ++ (codes "table{border-collapse:collapse;width:100%;font-size:.85rem;margin:.5rem 0}\n"
    ++ (codes "caption,th{text-align:left}\n"
    ++ (codes "th,td{padding:.1rem .4rem;vertical-align:bottom}\n"
    ++ (codes "td:nth-last-child(n+4){width:1%;white-space:nowrap;text-align:right}\n"
    ++ codes "td:nth-last-child(3){width:11rem;border-right:2px solid var(--line);\n"))))))

abbrev pub style_5 : List ℕ
style_5 =
    codes "text-align:right}\n"
    ++ (codes "td:last-child{width:11rem;border-left:2px solid var(--line)}\n"
    ++ (codes "td:nth-last-child(2){padding:.2rem 0 .3rem}\n"
    ++ (codes "div{position:relative;border-bottom:1px solid;padding:0 1rem;min-width:13rem;\n"
    ++ (codes "overflow-wrap:anywhere;unicode-bidi:isolate}\n"
    ++ (codes "div::after{content:\"\";position:absolute;bottom:-5px;\n"
    ++ (codes "border:4px solid transparent}\n"
    ++ codes ".to div::after{right:0;border-left:8px solid;border-right:0}\n"))))))

abbrev pub style_6 : List ℕ
style_6 =
    codes ".fro div::after{left:0;border-right:8px solid;border-left:0}\n"
    ++ (codes "tr.no{background:var(--mark);font-weight:700}\n"
    ++ (codes "tr.no td:first-child::before{content:\"\\2717\\a0\"}\n"
    ++ (codes ".late{opacity:.65}\n"
    ++ (codes ".run{color:var(--pale);font-style:italic}.run div{border-style:none}\n"
    ++ (codes ".could{color:var(--ink)}.could div{border:1px dashed;margin:.1rem 2rem}\n"
    ++ (codes "@media screen{body{display:flex;flex-direction:column}\n"
    ++ codes "details[open]{content-visibility:auto;contain-intrinsic-height:auto 20rem}\n"))))))

abbrev pub style_7 : List ℕ
style_7 =
    codes "pre+pre samp{content-visibility:auto;contain-intrinsic-height:auto 127.5rem}\n"
    ++ (codes "h1{order:-3}body>.about{order:-2}body>.about~.about{order:1}.sum{order:-1}}\n"
    ++ (codes "@media print,(max-width:60rem){td:nth-last-child(3),td:last-child{width:6rem}\n"
    ++ (codes "td:first-child{white-space:normal;min-width:6.5rem}.could div{margin:.1rem}}\n"
    ++ (codes "@media print{:root{font-size:9pt}body{max-width:none;margin:0}\n"
    ++ (codes "h2,h3,summary{break-after:avoid}tr{break-inside:avoid}\n"
    ++ (codes "details::details-content{display:block;content-visibility:visible;\n"
    ++ codes "block-size:auto}}\n"))))))

abbrev pub style_8 : List ℕ
style_8 =
    codes ".to div::before{content:\"\\2192\\a0\"}\n"
    ++ (codes ".fro div::before{content:\"\\2190\\a0\"}\n"
    ++ (codes "@media screen and (max-width:40rem){table,caption,thead,tbody{display:block}\n"
    ++ (codes "tr{display:grid;grid-template-columns:1fr auto auto}\n"
    ++ (codes "th:nth-last-child(-n+3),.could td:nth-last-child(n+4){display:none}\n"
    ++ (codes "td:nth-last-child(-n+3){grid-column:1/-1;width:auto;border:0;text-align:left}\n"
    ++ (codes "td:nth-last-child(-n+3):empty{display:none}\n"
    ++ (codes "td:last-child{text-align:right}\n"
    ++ (codes "td:first-child{text-align:left;white-space:nowrap}\n"
    ++ codes "div{min-width:0}}\n"))))))))

abbrev pub style_text : List ℕ
style_text =
    style_1 ++ (style_2 ++ (style_3 ++ (style_4 ++ (style_5 ++ (style_6 ++ (style_7 ++ (style_8)))))))

abbrev pub after_title : List ℕ
after_title = codes ": bgp check</title>\n<style>\n" ++ (style_text ++ codes "</style>\n<h1>")

-- ---- what the answers say

abbrev pub about_text : List ℕ
about_text =
    codes "yes: the standard (RFC 4271 with RFC 7606) allows everything that this "
    ++ (codes "file shows of the router; that does not say that the session came up: read the "
    ++ (codes "state at the end of the line. no: it does not allow what the router did there, "
    ++ (codes "and the lines below list all that could have come instead. unfinished: the "
    ++ (codes "file ends before something that was due, which blames nobody. The lines are "
    ++ codes "those of bgp check, word for word."))))

-- and their words
abbrev pub words_text : List ℕ
words_text =
    codes "In a pcap file the two routers of a connection are its ends, and each yes, "
    ++ (codes "no or unfinished is about one end. In an MRT file each is about the local "
    ++ (codes "system in one stretch of a session, and is counted as an end. A record is "
    ++ (codes "one message that the end sent or received, or one change of its state. could "
    ++ (codes "come here: the standard allows this in place of the record that the no "
    ++ (codes "names. or: it allows this, too, and nothing but these. had to come here: the "
    ++ (codes "same, and the router could receive no other message before it. could come "
    ++ (codes "next, had to come next: the same after the last record. refused: it cannot "
    ++ (codes "be read, and is not judged. open at the end of the file: nothing in it ended "
    ++ (codes "the session. A single - stands for nothing: no prefix, or no attribute. "
    ++ (codes "origin 0, 1 and 2 are IGP, EGP and INCOMPLETE. In a pcap file a message that "
    ++ (codes "came is handled within 10 seconds, or within as many as --within says. The "
    ++ codes "standard sets no such time; the 10 seconds are a choice of bgp.")))))))))))

abbrev pub after_name : List ℕ
after_name =
    codes "</h1>\n<p class=\"about\">"
    ++ (about_text ++ (codes "</p>\n<p class=\"about\">" ++ (words_text ++ codes "</p>\n")))

-- ---- what the rows of records say

abbrev pub ladders_text : List ℕ
ladders_text =
    codes "Each yes, no and unfinished above has a table here: the records of its end, "
    ++ (codes "a row each, in the order that bgp import makes, in which the router can have "
    ++ (codes "handled them. An arrow points from the sender of a message to its receiver. "
    ++ (codes "Seconds are counted from the first packet of the connection; a row without a "
    ++ (codes "time is of the same packet as the row above it. came before: the packet came "
    ++ (codes "before that of a row above it, and was handled after it. No packet shows a "
    ++ (codes "change of state: it stands at the packet of the message beside it, or of the "
    ++ (codes "end of the connection. The row of a no has a cross. Dashed rows say what "
    ++ (codes "could have come in place of the record above them, or had to: they are lines "
    ++ (codes "of the answer above. Dashed rows at the end of a table say what could come "
    ++ (codes "next, or has to. The rows after that of a no are pale: they are not judged. "
    ++ (codes "If the answer names a packet in the order of bgp import, the dashed rows "
    ++ (codes "stand below its record: in this order that record is not allowed, in another "
    ++ codes "it may be; the message of the row with the cross is not allowed in any."))))))))))))

abbrev pub ladders_start : List ℕ
ladders_start =
    codes "<section>\n<h2><b>Records</b></h2>\n<p class=\"about\">"
    ++ (ladders_text ++ codes "</p>\n")

-- ---- what those of stretches say

abbrev pub stretches_text : List ℕ
stretches_text =
    codes "Each yes, no and unfinished above has a table here: the records of its "
    ++ (codes "stretch, a row each, in the order of the file. A stretch is the records of a "
    ++ (codes "session from one that leaves Idle on. If another stretch follows, the last "
    ++ (codes "row is the change that begins that one: it is judged in both. The number of "
    ++ (codes "a record is that in its session; a ROUTE-REFRESH that is passed over has no "
    ++ (codes "row. The right column is the local system, which is judged, and the left one "
    ++ (codes "its peer. An arrow points from the sender of a message to its receiver. "
    ++ (codes "Seconds are counted from the first record of the session. The row of a no "
    ++ (codes "has a cross. The dashed rows below it say what could have come in its place, "
    ++ (codes "or had to: they are lines of the answer above. Dashed rows at the end of a "
    ++ (codes "table say what could come next, or has to. The rows after that of a no are "
    ++ codes "pale: they are not judged here."))))))))))

abbrev pub stretches_start : List ℕ
stretches_start =
    codes "<section>\n<h2><b>Records</b></h2>\n<p class=\"about\">"
    ++ (stretches_text ++ codes "</p>\n")
