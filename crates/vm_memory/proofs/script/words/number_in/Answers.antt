-- The conversion reads the digits, which begin with no plus sign.
use Rattle.std.proofs.Common.{◌∙◌, lit<}
use Rattle.std.proofs.lemmas.Bool.{both_ways}
use Rattle.std.proofs.lemmas.Str.Parse.{without_leading_plus_none}
use Rattle.std.proofs.lemmas.Str.Pattern.{starts_char}
use Rattle.vm_memory.proofs.WordLemmas.{number_in-parse}
use Rattle.vm_memory.proofs.script.words.number_in.Goals as goal

pub returns : goal.returns
returns c =
    let digits = c.args.digits.now in
    let plus = starts_char 43 digits _ c.starts_with.ensures.cases (lit< tt) (lit< tt) in
    let plain = without_leading_plus_none digits (λ e. both_ways _ c.if-starts_with.false (plus.1 e)) in
    c.ok.ensures.value ∙ number_in-parse c.args.radix digits _ c.from_str_radix.ensures.value plain
