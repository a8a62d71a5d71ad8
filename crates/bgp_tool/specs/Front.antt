-- What a file is, by its first octets, of which 262 are kept.
use Rattle.std.specs.Prelude.{◌==◌, ◌&&◌, ◌||◌, ℕ, Bool, List, [], ◌∷◌, length, take, not}
use Rattle.std.specs.Prelude.{Option, None, Some, if◌then◌else◌, nat_le, slice_index}
use Rattle.std.specs.List.{list_all, starts_with}
use Rattle.bgp_tool.specs.declared.front.Form.{Form}
use Rattle.bgp_tool.specs.declared.front.Form.TheVariants.{Pcap, Pcapng, Gzip, Bzip2, Xz, Zstd}
use Rattle.bgp_tool.specs.declared.front.Form.TheVariants.{Zip, Tar, Mrt, Stream, Dump, Digits}
use Rattle.bgp_tool.specs.declared.front.Form.TheVariants.{Text, Empty, Other}

-- the front begins with these octets
abbrev pub begins : List ℕ → List ℕ → Bool
begins front octets = starts_with (λ x y. x == y) front octets

-- a packet capture as libpcap writes it: a1b2c3d4 in either order, or a1b23c4d, for nanoseconds
abbrev pub is_pcap : List ℕ → Bool
is_pcap front =
    begins front (161 ∷ 178 ∷ 195 ∷ 212 ∷ []) || (begins front (212 ∷ 195 ∷ 178 ∷ 161 ∷ [])
    || (begins front (161 ∷ 178 ∷ 60 ∷ 77 ∷ []) || begins front (77 ∷ 60 ∷ 178 ∷ 161 ∷ [])))

-- a packet capture of the newer form: a Section Header Block, 0a0d0d0a
abbrev pub is_pcapng : List ℕ → Bool
is_pcapng front = begins front (10 ∷ 13 ∷ 13 ∷ 10 ∷ [])

-- deflated by gzip (RFC 1952, 2.3.1): ID1, ID2, and the only method, 8
abbrev pub is_gzip : List ℕ → Bool
is_gzip front = begins front (31 ∷ 139 ∷ 8 ∷ [])

-- of bzip2: BZh, and how hard it compresses, a digit from 1 to 9
abbrev pub is_level : ℕ → Bool
is_level octet = nat_le 49 octet && nat_le octet 57

abbrev pub is_bzip2 : List ℕ → Bool
is_bzip2 front = begins front (66 ∷ 90 ∷ 104 ∷ [])
    && (nat_le 4 (length front) && is_level (slice_index front 3))

-- of xz: fd, 7zXZ and 00
abbrev pub is_xz : List ℕ → Bool
is_xz front = begins front (253 ∷ 55 ∷ 122 ∷ 88 ∷ 90 ∷ 0 ∷ [])

-- of zstd (RFC 8878, 3.1.1): the magic number fd2fb528, its last octet first
abbrev pub is_zstd : List ℕ → Bool
is_zstd front = begins front (40 ∷ 181 ∷ 47 ∷ 253 ∷ [])

-- an archive of zip: PK, 03 and 04
abbrev pub is_zip : List ℕ → Bool
is_zip front = begins front (80 ∷ 75 ∷ 3 ∷ 4 ∷ [])

-- an archive of tar (POSIX.1-1988): ustar behind the first 257 octets of the header
abbrev pub is_tar : List ℕ → Bool
is_tar front =
    nat_le 262 (length front) && (slice_index front 257 == 117 && (slice_index front 258 == 115
    && (slice_index front 259 == 116 && (slice_index front 260 == 97
    && slice_index front 261 == 114))))

-- TABLE_DUMP, TABLE_DUMP_V2, BGP4MP or BGP4MP_ET (RFC 6396, 4)
abbrev pub is_mrt_type : ℕ → Bool
is_mrt_type number = number == 12 || (number == 13 || (number == 16 || number == 17))

-- records of RFC 6396, 2: behind the timestamp such a type, and a subtype below 256
abbrev pub is_mrt : List ℕ → Bool
is_mrt front =
    nat_le 8 (length front) && (slice_index front 4 == 0
    && (is_mrt_type (slice_index front 5) && slice_index front 6 == 0))

-- a raw stream of messages: the Marker of the first one, 16 octets of ones (RFC 4271, 4.1)
abbrev pub eight_ones : List ℕ → List ℕ
eight_ones octets =
    255 ∷ 255 ∷ 255 ∷ 255 ∷ 255 ∷ 255 ∷ 255 ∷ 255 ∷ octets

abbrev pub is_stream : List ℕ → Bool
is_stream front = begins front (eight_ones (eight_ones []))

-- ---- texts, by their first 16 octets

-- a dump of xxd: the address of its first line, eight times 0, and a colon
abbrev pub is_dump : List ℕ → Bool
is_dump start =
    begins start (48 ∷ 48 ∷ 48 ∷ 48 ∷ 48 ∷ 48 ∷ 48 ∷ 48 ∷ 58 ∷ [])

-- a blank, a tab or an end of line
abbrev pub is_space : ℕ → Bool
is_space octet = octet == 32 || (octet == 9 || (octet == 10 || octet == 13))

-- a hexadecimal digit, or between two
abbrev pub is_digits_octet : ℕ → Bool
is_digits_octet octet =
    (nat_le 48 octet && nat_le octet 57) || ((nat_le 97 octet && nat_le octet 102)
    || ((nat_le 65 octet && nat_le octet 70) || is_space octet))

abbrev pub are_digits : List ℕ → Bool
are_digits start = list_all is_digits_octet start

-- an address, 0, as dumps begin: six digits or more, or four and a blank
abbrev pub begins_with_address : List ℕ → Bool
begins_with_address start = begins start (48 ∷ 48 ∷ 48 ∷ 48 ∷ 48 ∷ 48 ∷ [])
    || begins start (48 ∷ 48 ∷ 48 ∷ 48 ∷ 32 ∷ [])

-- hexadecimal digits, unless they begin with what may be an address
abbrev pub is_digits : List ℕ → Bool
is_digits start = not (begins_with_address start) && are_digits start

-- an octet of a text: printable, a tab or an end of line
abbrev pub is_text_octet : ℕ → Bool
is_text_octet octet =
    (nat_le 32 octet && nat_le octet 126) || (octet == 9 || (octet == 10 || octet == 13))

abbrev pub is_text : List ℕ → Bool
is_text start = list_all is_text_octet start

unfoldable pub text_form : List ℕ → Option Form
text_form start =
    if is_dump start then Some Dump else (if is_digits start then Some Digits
    else (if is_text start then Some Text else None))

-- ---- what a file is

-- which text a file is, by its first octets: of fewer than eight it isn't said
unfoldable pub text_of : List ℕ → Option Form
text_of front = if nat_le 8 (length front) then text_form (take 16 front) else None

-- nothing that a command reads: compressed, an archive, or a text
unfoldable pub packed_or_text : List ℕ → Option Form
packed_or_text front =
    if is_gzip front then Some Gzip else (if is_bzip2 front then Some Bzip2
    else (if is_xz front then Some Xz else (if is_zstd front then Some Zstd
    else (if is_zip front then Some Zip else (if is_tar front then Some Tar
    else text_of front)))))

-- what the file is, if its front shows it
unfoldable pub form_of : List ℕ → Option Form
form_of front =
    if length front == 0 then Some Empty else (if is_pcap front then Some Pcap
    else (if is_pcapng front then Some Pcapng else (if is_mrt front then Some Mrt
    else (if is_stream front then Some Stream else packed_or_text front))))

-- another one, if the front is long enough to show a record's type (RFC 6396, 2)
abbrev pub or_other : Option Form → ℕ → Option Form
or_other (Some form) count = Some form
or_other None count = if nat_le 8 count then Some Other else None

abbrev pub form_or_other : List ℕ → Option Form
form_or_other front = or_other (form_of front) (length front)

-- what it is if its front is that of no raw stream, of no capture, or of no recording of packets
abbrev pub no_stream : List ℕ → Option Form
no_stream front = if is_stream front then None else form_of front

abbrev pub no_capture : List ℕ → Option Form
no_capture front = if is_mrt front then None else form_or_other front

abbrev pub no_recording : List ℕ → Option Form
no_recording front = if is_pcap front || is_pcapng front then None else form_or_other front

-- what is kept of octets, and of more behind them
abbrev pub kept : List ℕ → List ℕ
kept octets = take 262 octets
