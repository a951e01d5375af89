use Rattle.cu_calculus.proofs.CoinValues.{coin_fewer, coin_least, coin_more, coin_true, coin_valid, every_derives}
use Rattle.cu_calculus.proofs.laws.coin_is_zero_or_one.Goals as goal

pub returns : goal.returns
returns c = record {
  valid = coin_valid;
  least = coin_least;
  zero_and_one = coin_true;
  fewer = coin_fewer;
  more = coin_more;
  every = every_derives;
}
