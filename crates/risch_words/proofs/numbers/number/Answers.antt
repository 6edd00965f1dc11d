use Rattle.std.proofs.Common.{rules, arith, ◌≡◌, ◌<◌, ◌^◌, true}
use Rattle.std.specs.Char.{is_ascii_digit}
use Rattle.std.specs.List.{list_all}
use Rattle.risch_words.proofs.NumberLemmas.{number_err, number_in, number_out}
use Rattle.risch_words.proofs.numbers.number.Goals as goal

pub returns-in_default : goal.returns-in_default
returns-in_default c =
    let all : list_all is_ascii_digit c.args.text.now ≡ true = search rules in
    let fits : c.args.most < 2 ^ 64 = omega arith in
    number_err c.args.most c.args.text.now fits all c.in_default.ensures.value.0

pub returns-then-number-lt1 : goal.returns-then-number-lt1
returns-then-number-lt1 c =
    let all : list_all is_ascii_digit c.args.text.now ≡ true = search rules in
    number_out c.args.most c.args.text.now c.in-Ok.number all c.in-Ok.ensures.value.0 c.then-number-lt1.either

pub returns : goal.returns
returns c =
    let all : list_all is_ascii_digit c.args.text.now ≡ true = search rules in
    number_in c.args.most c.args.text.now c.in-Ok.number all c.in-Ok.ensures.value.0 c.if-number-lt1.false c.if-number-most.false
