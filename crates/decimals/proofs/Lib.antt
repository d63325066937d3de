pub mod NumbersDigits
pub mod NumbersRoundTrip
pub mod Lists
pub mod ListsRead
pub mod ListsRoundTrip
pub mod ListsHeld
