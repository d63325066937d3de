pub mod PartsSets
pub mod PartsSound
pub mod PartsLacking
pub mod PartsCritical
pub mod PartsAttack
pub mod MeansStatuses
pub mod MeansAnswers
