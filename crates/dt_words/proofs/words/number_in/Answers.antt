use Rattle.std.proofs.Common.{◌≡◌, ◌∙◌, ℕ, Option, Some, None, sym, ap}
use Rattle.std.specs.Option.{option_map, option_map_or}
use Rattle.clap.specs.Matches.{found_of}
use Rattle.clap.specs.Walk.{Text, byte_or_zero, first_of, rows_of}
use Rattle.clap.proofs.WalkLemmas.{first_value-rows}
use Rattle.dt_words.specs.Table.{within}
use Rattle.dt_words.proofs.words.number_in.Goals as goal

pub returns-in-Some : goal.returns-in-Some
returns-in-Some c =
    let found = found_of c.args.matches.now in
    let first : Some c.in-Some.text.now ≡ first_of c.args.name.now (rows_of found)
    = ap (option_map (λ s. s.now)) (sym c.in-Some.is) ∙ (c.get_str.ensures ∙ first_value-rows found c.args.name.now) in
    c.within.ensures ∙ ap (λ (n : ℕ). within c.args.least c.args.most c.args.otherwise n) c.byte_of.ensures
    ∙ ap (λ (o : Option Text). option_map_or (λ text. within c.args.least c.args.most c.args.otherwise (byte_or_zero text)) o c.args.otherwise) first

pub returns-in-None : goal.returns-in-None
returns-in-None c =
    let found = found_of c.args.matches.now in
    let none : (let x : Option Text = None in x ≡ first_of c.args.name.now (rows_of found))
    = ap (option_map (λ s. s.now)) (sym c.in-None.is) ∙ (c.get_str.ensures ∙ first_value-rows found c.args.name.now) in
    ap (λ (o : Option Text). option_map_or (λ text. within c.args.least c.args.most c.args.otherwise (byte_or_zero text)) o c.args.otherwise) none
