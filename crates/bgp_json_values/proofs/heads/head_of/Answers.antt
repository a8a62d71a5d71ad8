use Rattle.std.proofs.Common.{◌≡◌, ℕ, List, arith, codes, refl, subst, sym}
use Rattle.json.specs.Print.{escape_byte}
use Rattle.json_writer.specs.Piece.{IsPiece}
use Rattle.json_writer.proofs.Dotted.{has_one, has_two}
use Rattle.bgp_json_values.specs.Heads.{head_tokens}
use Rattle.bgp_json_values.proofs.HeadTexts.{is_head}
use Rattle.bgp_json_values.proofs.heads.head_of.Goals as goal

-- a text that is what the object of one type begins with is that of this type
of_type : (text : List ℕ) (kind known : ℕ) → kind ≡ known → IsPiece (head_tokens known) text → IsPiece (head_tokens kind) text
of_type text kind known is head = subst (λ (k : ℕ). IsPiece (head_tokens k) text) (sym is) head

pub returns-in-1 : goal.returns-in-1
unfolding escape_byte
returns-in-1 c = of_type _ c.args.kind 1 c.in-1.is (is_head 1 (codes "1") (codes "ORIGIN") (has_one 1 (omega arith)) (omega arith) refl refl)

pub returns-in-2 : goal.returns-in-2
unfolding escape_byte
returns-in-2 c = of_type _ c.args.kind 2 c.in-2.is (is_head 2 (codes "2") (codes "AS_PATH") (has_one 2 (omega arith)) (omega arith) refl refl)

pub returns-in-3 : goal.returns-in-3
unfolding escape_byte
returns-in-3 c = of_type _ c.args.kind 3 c.in-3.is (is_head 3 (codes "3") (codes "NEXT_HOP") (has_one 3 (omega arith)) (omega arith) refl refl)

pub returns-in-4 : goal.returns-in-4
unfolding escape_byte
returns-in-4 c = of_type _ c.args.kind 4 c.in-4.is (is_head 4 (codes "4") (codes "MULTI_EXIT_DISC") (has_one 4 (omega arith)) (omega arith) refl refl)

pub returns-in-5 : goal.returns-in-5
unfolding escape_byte
returns-in-5 c = of_type _ c.args.kind 5 c.in-5.is (is_head 5 (codes "5") (codes "LOCAL_PREF") (has_one 5 (omega arith)) (omega arith) refl refl)

pub returns-in-6 : goal.returns-in-6
unfolding escape_byte
returns-in-6 c = of_type _ c.args.kind 6 c.in-6.is (is_head 6 (codes "6") (codes "ATOMIC_AGGREGATE") (has_one 6 (omega arith)) (omega arith) refl refl)

pub returns-in-7 : goal.returns-in-7
unfolding escape_byte
returns-in-7 c = of_type _ c.args.kind 7 c.in-7.is (is_head 7 (codes "7") (codes "AGGREGATOR") (has_one 7 (omega arith)) (omega arith) refl refl)

pub returns-in-8 : goal.returns-in-8
unfolding escape_byte
returns-in-8 c = of_type _ c.args.kind 8 c.in-8.is (is_head 8 (codes "8") (codes "COMMUNITIES") (has_one 8 (omega arith)) (omega arith) refl refl)

pub returns-in-9 : goal.returns-in-9
unfolding escape_byte
returns-in-9 c = of_type _ c.args.kind 9 c.in-9.is (is_head 9 (codes "9") (codes "ORIGINATOR_ID") (has_one 9 (omega arith)) (omega arith) refl refl)

pub returns-in-10 : goal.returns-in-10
unfolding escape_byte
returns-in-10 c = of_type _ c.args.kind 10 c.in-10.is (is_head 10 (codes "10") (codes "CLUSTER_LIST") (has_two 10 (omega arith) (omega arith)) (omega arith) refl refl)

pub returns-in-14 : goal.returns-in-14
unfolding escape_byte
returns-in-14 c = of_type _ c.args.kind 14 c.in-14.is (is_head 14 (codes "14") (codes "MP_REACH_NLRI") (has_two 14 (omega arith) (omega arith)) (omega arith) refl refl)

pub returns-in-15 : goal.returns-in-15
unfolding escape_byte
returns-in-15 c = of_type _ c.args.kind 15 c.in-15.is (is_head 15 (codes "15") (codes "MP_UNREACH_NLRI") (has_two 15 (omega arith) (omega arith)) (omega arith) refl refl)

pub returns-in-16 : goal.returns-in-16
unfolding escape_byte
returns-in-16 c = of_type _ c.args.kind 16 c.in-16.is (is_head 16 (codes "16") (codes "EXTENDED_COMMUNITIES") (has_two 16 (omega arith) (omega arith)) (omega arith) refl refl)

pub returns-in-32 : goal.returns-in-32
unfolding escape_byte
returns-in-32 c = of_type _ c.args.kind 32 c.in-32.is (is_head 32 (codes "32") (codes "LARGE_COMMUNITY") (has_two 32 (omega arith) (omega arith)) (omega arith) refl refl)
