mod CodeLevels
mod GoalRule
mod LeastLevels
mod SameTruth
