use Rattle.std.proofs.Common.{◌≡◌, ℕ, sym, ap, ◌∙◌, rules}
use Rattle.std.specs.Option.{option_copied}
use Rattle.page_cache.specs.Slots.{Slots, words_in, slot_at}
use Rattle.page_cache.proofs.Slots.{kept_hit, first_none, first_keeps}
use Rattle.page_cache.proofs.table.Table.words.Goals as goal

pub returns-in_err-number : goal.returns-in_err-number
returns-in_err-number c = ap option_copied c.from_residual.ensures ∙ sym (first_none c.args.self.now.slots c.args.page (sym c.in_err-number.ensures))

pub returns : goal.returns
returns c =
    let ks : Slots = c.args.self.now.slots in
    let i : ℕ = c.in_ok-number.number.index in
    let read : option_copied c.map.result ≡ words_in (slot_at ks i) = search rules in
    read ∙ sym (kept_hit ks i c.args.page c.args.self.now.apart (first_keeps ks c.args.page i (sym c.in_ok-number.ensures)))
