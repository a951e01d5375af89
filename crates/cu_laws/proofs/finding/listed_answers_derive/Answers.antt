use Rattle.cu_laws.proofs.Solved.{listed_derives}
use Rattle.cu_laws.proofs.finding.listed_answers_derive.Goals as goal

pub returns : goal.returns
returns c = record {
  at_level = listed_derives;
  least = λ program limits levels goal depth reading well rule are least m. record {
    levels = levels;
    least = least;
    derives = listed_derives program limits levels goal depth reading well rule are m;
  };
}
