-- Times, places and ends have no line feed.
use Rattle.std.proofs.Common.{◌++◌, ◌==◌, ◌/◌, ◌%◌, ℕ, [], Option, None, Some, codes, nat_lt, refl}
use Rattle.std.specs.Fmt.{decimal}
use Rattle.bgp_prefix.specs.Text.{address_text}
use Rattle.bgp_prefix.specs.declared.address.Address.{Address}
use Rattle.bgp_prefix.specs.declared.address.Address.TheVariants.{V4, V6}
use Rattle.bgp_clock.specs.Civil.{day_at, hour_at, minute_at, month_at, second_at, year_at}
use Rattle.bgp_clock.specs.When.{clock_text, date_text, four_digits, fraction_text, short_text, six_digits, time_text, two_digits, when_text}
use Rattle.bgp_why.specs.Endpoint.{endpoint_by, endpoint_text, with_port}
use Rattle.bgp_why.specs.Place.{place_at, place_by, place_text}
use Rattle.bgp_why.specs.declared.endpoint.Endpoint.{Endpoint}
use Rattle.bgp_why.specs.declared.place.Place.{Place}
use Rattle.bgp_visible_laws.proofs.Texts.{address_visible, decimal_visible}
use Rattle.bgp_answer_laws.proofs.Lines.{IsPlain, both, if_plain, nothing, word}
use Rattle.bgp_answer_laws.proofs.Plain.{digit, plain}

pub number : (n : ℕ) → IsPlain (decimal n)
number n = plain (decimal_visible n)

-- ---- times

two : (n : ℕ) → IsPlain (two_digits n)
two n = digit (n / 10 % 10) (digit (n % 10) nothing)

four : (n : ℕ) → IsPlain (four_digits n)
four n = digit (n / 1000 % 10) (digit (n / 100 % 10) (two n))

six : (n : ℕ) → IsPlain (six_digits n)
six n = digit (n / 100000 % 10) (digit (n / 10000 % 10) (four n))

fraction : (micro : Option ℕ) → IsPlain (fraction_text micro)
fraction None = nothing
fraction (Some n) = if_plain (nat_lt n 1000000) (codes "." ++ six_digits n) [] (both (word (codes ".") refl) (six n)) nothing

clock : (second : ℕ) (micro : Option ℕ) → IsPlain (clock_text second micro)
unfolding clock_text time_text
clock second micro =
    both (both (two (hour_at second)) (both (word (codes ":") refl) (both (two (minute_at second)) (both (word (codes ":") refl) (two (second_at second)))))) (fraction micro)

pub when : (second : ℕ) (micro : Option ℕ) → IsPlain (when_text second micro)
unfolding when_text date_text
when second micro =
    both (both (four (year_at second)) (both (word (codes "-") refl) (both (two (month_at second)) (both (word (codes "-") refl) (two (day_at second))))))
    (both (word (codes " ") refl) (clock second micro))

pub short : (first second : ℕ) (micro : Option ℕ) → IsPlain (short_text first second micro)
short first second micro =
    if_plain (first / 86400 == second / 86400) (clock_text second micro) (when_text second micro) (clock second micro) (when second micro)

-- ---- places

by_packet : (count : ℕ) (packet : Option ℕ) → IsPlain (place_by count packet)
by_packet count None = both (word (codes "record ") refl) (number count)
by_packet count (Some packet) = both (word (codes "packet ") refl) (number packet)

pub place : (its : Place) → IsPlain (place_text its)
place its = by_packet its.number its.packet

pub at : (first : ℕ) (its : Place) → IsPlain (place_at first its)
unfolding place_at
at first its = both (place its) (both (word (codes ", ") refl) (short first its.second its.micro))

-- ---- ends

pub address : (its : Address) → IsPlain (address_text its)
address its = plain (address_visible its)

port : (its : Address) (its_port : ℕ) → IsPlain (with_port its its_port)
port (V4 n) its_port = both (address (V4 n)) (both (word (codes ":") refl) (number its_port))
port (V6 n) its_port = both (word (codes "[") refl) (both (address (V6 n)) (both (word (codes "]:") refl) (number its_port)))

end_by : (its : Address) (its_port : Option ℕ) → IsPlain (endpoint_by its its_port)
end_by its None = address its
end_by its (Some its_port) = port its its_port

pub end : (its : Endpoint) → IsPlain (endpoint_text its)
end its = end_by its.address its.port
