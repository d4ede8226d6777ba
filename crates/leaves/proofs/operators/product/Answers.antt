-- `leaves::operators::product` meets its contract: the whole product fits 64 bits.
use Rattle.std.proofs.Common.{sym, rules}
use Rattle.rules.proofs.ValueLaws.{product_law, product_fits}
use Rattle.leaves.proofs.operators.product.Goals as goal

pub overflow_mul-result : goal.overflow_mul-result
overflow_mul-result c =
    rw (c.from.ensures, c.from-2.ensures) (record { fits = product_fits c.args.a c.args.b (search rules) (search rules) })

pub returns : goal.returns
returns c = rw (c.from.ensures, c.from-2.ensures) (sym (product_law c.args.a c.args.b))
