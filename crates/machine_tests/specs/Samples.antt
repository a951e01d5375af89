-- The programs of the tests: truth values, lists, and these functions over these expressions. The
-- first function is `&&`.
use Rattle.std.specs.Prelude.{List, [], ◌∷◌, None, Some}
use Rattle.cu_calculus.specs.Code.{Code, Expr, Function}

abbrev pub sample : List Function → List Expr → Code
sample functions expressions = record {
  functions = functions;
  constructors = record { of_type = 0; arity = 0 } ∷ record { of_type = 0; arity = 0 }
      ∷ record { of_type = 1; arity = 0 }
      ∷ record { of_type = 1; arity = 2 } ∷ [];
  special = record {
    falsity = record { 0 = 0 };
    truth = record { 0 = 1 };
    nil = record { 0 = 2 };
    cons = record { 0 = 3 };
    both = record { 0 = 0 };
    values = None;
  };
  expressions = expressions;
}

-- the sample program over these functions and expressions, with the constructor of the values of
-- set functions
abbrev pub sample_with_sets : List Function → List Expr → Code
sample_with_sets functions expressions = record {
  functions = functions;
  constructors = record { of_type = 0; arity = 0 } ∷ record { of_type = 0; arity = 0 }
      ∷ record { of_type = 1; arity = 0 }
      ∷ record { of_type = 1; arity = 2 } ∷ record { of_type = 2; arity = 1 } ∷ [];
  special = record {
    falsity = record { 0 = 0 };
    truth = record { 0 = 1 };
    nil = record { 0 = 2 };
    cons = record { 0 = 3 };
    both = record { 0 = 0 };
    values = Some (record { 0 = 4 });
  };
  expressions = expressions;
}
