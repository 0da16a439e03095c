pub mod AskedWay
