use Rattle.std.proofs.Common.{◌≡◌, false, Err, ap, ◌∙◌, arith}
use Rattle.toml.specs.Data.{members_have_valid_dates}
use Rattle.toml.specs.View.{table_view}
use Rattle.cartridge.proofs.PlainChips.{accepted_plain}
use Rattle.cartridge.proofs.document.document.Goals as goal

pub returns-in-Ok : goal.returns-in-Ok
returns-in-Ok c =
    let (shallow, dated) = accepted_plain (table_view c.args.cart.now) c.requires c.keys_differ.ensures c.keys_differ_in_chips.ensures in
    c.in-Ok.ensures.reads_back (omega arith)

pub unreachable-requires : goal.unreachable-requires
unreachable-requires c =
    let (shallow, dated) = accepted_plain (table_view c.args.cart.now) c.requires c.keys_differ.ensures c.keys_differ_in_chips.ensures in
    let bad : members_have_valid_dates (table_view c.args.cart.now) ≡ false =
    c.table_to_string.ensures.dates.0 (c.in-Err-DateInvalid.is ∙ ap Err c.in-Err-DateInvalid.field-0-is) in
    cc (bad, dated)
